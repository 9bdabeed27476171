-- Stations, tags and order.
use Rattle.std.specs.Prelude.{Bool, true, false, not, ◌&&◌, List, [], ◌∷◌, ℕ, zero, suc, min, leb, eqb, get_or, set}

-- "An operation's tag is its sender and a vector of N unsigned 32-bit entries."
abbrev pub Vector : Type 0
Vector = List ℕ

-- One more than the greatest number that an entry can hold.
abbrev pub entry_limit : ℕ
entry_limit = 4294967296

-- "every entry of u's vector is at most t's"
abbrev pub at_most : Vector → Vector → Bool
at_most [] t = true
at_most (entry ∷ u) [] = false
at_most (entry ∷ u) (other ∷ t) = leb entry other && at_most u t

-- "the vectors differ", or not: the same entries.
abbrev pub same : Vector → Vector → Bool
same [] [] = true
same [] (other ∷ t) = false
same (entry ∷ u) [] = false
same (entry ∷ u) (other ∷ t) = eqb entry other && same u t

-- "Operation u is *before* t when every entry of u's vector is at most t's and the vectors differ."
unfoldable pub before_by_vector : Vector → Vector → Bool
before_by_vector u t = at_most u t && not (same u t)

-- "Neither before the other, and different: *concurrent*."
unfoldable pub concurrent_by_vector : Vector → Vector → Bool
concurrent_by_vector u t = (not (before_by_vector u t) && not (before_by_vector t u)) && not (same u t)

-- The clock after one more number of the sender.
abbrev pub raised : Vector → ℕ → Vector
raised clock sender = set clock sender (suc (get_or clock sender 0))

-- The entrywise least of two vectors, and of one and some more.
abbrev pub least : Vector → Vector → Vector
least [] t = []
least (entry ∷ u) [] = []
least (entry ∷ u) (other ∷ t) = min entry other ∷ least u t

-- "entry by entry ... the least of" a vector and some more.
abbrev pub least_of : Vector → List Vector → Vector
least_of u [] = u
least_of u (t ∷ rest) = least_of (least u t) rest

-- The vectors of the other stations: all but the one at the own place.
abbrev pub others_of : ℕ → List Vector → List Vector
others_of own [] = []
others_of zero (first ∷ rest) = rest
others_of (suc own) (first ∷ rest) = first ∷ others_of own rest

-- "Low, entry by entry, is the least of L[k] over the other stations k. With N = 1, Low is D."
abbrev pub low_of : Vector → List Vector → Vector
low_of clock [] = clock
low_of clock (first ∷ rest) = least_of first rest
