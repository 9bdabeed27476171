-- The nine kinds of object: what each answers, defined over all the accepted operations.
use Rattle.std.specs.Prelude.{Bool, not, ◌&&◌, ◌||◌, cond, List, [], ◌∷◌, map, ℕ, ◌+◌, ltb, eqb, ℤ, pos, ◌-ℤ◌, length}
use Rattle.meaning.specs.Tests.{any, those}
use Rattle.meaning.specs.Operations.{Operation, before, adds, removes, clears, grow_set, two_phase_set, multi_value_register, removes_stand}

-- "of the same object"
unfoldable pub of : ℕ → Operation → Bool
of o u = eqb u.object o

-- "on the same value"
unfoldable pub on : ℕ → ℕ → Operation → Bool
on o v u = eqb u.object o && eqb u.value v

-- "add of v", "write of v", "enable"
unfoldable pub add_of : ℕ → ℕ → Operation → Bool
add_of o v u = on o v u && eqb u.code adds

-- "remove of v", "disable"
unfoldable pub remove_of : ℕ → ℕ → Operation → Bool
remove_of o v u = on o v u && eqb u.code removes

-- "clear of that object"
unfoldable pub clear_of : ℕ → Operation → Bool
clear_of o u = eqb u.object o && eqb u.code clears

-- Kinds 5, 7 and 8: what, coming later, ends an add of v. Kind 7: "write or clear"; 5: "disable"; 8: "remove of v" or "clear". A flag has no
-- clears (its codes are 1 and 2), so that clause says nothing in kind 5.
unfoldable pub ends : ℕ → ℕ → ℕ → Operation → Bool
ends kind o v t = cond (eqb kind multi_value_register) (of o t) (remove_of o v t || clear_of o t)

-- "has no later": "'Later' means the first is before the second."
unfoldable pub survives : ℕ → ℕ → ℕ → List Operation → Operation → Bool
survives kind o v accepted u = not (any (λ (t : Operation). before u t && ends kind o v t) accepted)

-- "In kinds 6 and 9 an operation *stands* if no operation of the same object on the same value, and no clear of that object, is later."
unfoldable pub stands : ℕ → ℕ → List Operation → Operation → Bool
stands o v accepted u = not (any (λ (t : Operation). before u t && (on o v t || clear_of o t)) accepted)

-- 3: "v is in if it was added".
unfoldable pub in_grow_set : ℕ → ℕ → List Operation → Bool
in_grow_set o v accepted = any (add_of o v) accepted

-- 4: "v is in if added and never removed".
unfoldable pub in_two_phase_set : ℕ → ℕ → List Operation → Bool
in_two_phase_set o v accepted = any (add_of o v) accepted && not (any (remove_of o v) accepted)

-- 5: "on if some enable has no later disable"; 7: "v is in if some write of v has no later write or clear";
-- 8: "v is in if some add of v has no later remove of v and no later clear".
unfoldable pub in_by_survival : ℕ → ℕ → ℕ → List Operation → Bool
in_by_survival kind o v accepted = any (λ (u : Operation). add_of o v u && survives kind o v accepted u) accepted

-- 6: "on if some enable stands and no disable stands"; 9: "v is in if some add of v stands and no remove of v stands".
unfoldable pub in_by_standing : ℕ → ℕ → List Operation → Bool
in_by_standing o v accepted =
    any (λ (u : Operation). add_of o v u && stands o v accepted u) accepted
    && not (any (λ (u : Operation). remove_of o v u && stands o v accepted u) accepted)

-- The value v is in the object o of this kind; a flag is on when its one value, 0, is in. Of a counter this says nothing: no question about a
-- value fits it.
unfoldable pub is_in : ℕ → ℕ → ℕ → List Operation → Bool
is_in kind o v accepted =
    cond (eqb kind grow_set) (in_grow_set o v accepted)
    (cond (eqb kind two_phase_set) (in_two_phase_set o v accepted)
    (cond (removes_stand kind) (in_by_standing o v accepted) (in_by_survival kind o v accepted)))

-- "sum of amounts": of the operations of the object o with this code.
abbrev pub sum_of : ℕ → ℕ → List Operation → ℕ
sum_of o code [] = 0
sum_of o code (u ∷ accepted) = cond (of o u && eqb u.code code) u.value 0 + sum_of o code accepted

-- 1: "sum of amounts"; 2: "sum of increases less sum of decreases". Kind 1 has no decreases.
unfoldable pub total_of : ℕ → List Operation → ℤ
total_of o accepted = pos (sum_of o adds accepted) -ℤ pos (sum_of o removes accepted)

-- "the different values ascending": equal values are joined.
abbrev pub joined_with : ℕ → List ℕ → List ℕ
joined_with v [] = v ∷ []
joined_with v (first ∷ rest) = cond (ltb v first) (v ∷ first ∷ rest) (cond (eqb v first) (first ∷ rest) (first ∷ joined_with v rest))

-- "the different values ascending": of a list of values.
abbrev pub joined : List ℕ → List ℕ
joined [] = []
joined (v ∷ values) = joined_with v (joined values)

-- The values that the operations of the object o name, one for each operation.
unfoldable pub values_named : ℕ → List Operation → List ℕ
values_named o operations = map (λ (u : Operation). u.value) (those (of o) operations)

-- "3 list": "the different values ascending" that are in.
unfoldable pub list_of : ℕ → ℕ → List Operation → List ℕ
list_of kind o accepted = joined (those (λ (v : ℕ). is_in kind o v accepted) (values_named o accepted))

-- "count of different values"
unfoldable pub count_of : ℕ → ℕ → List Operation → ℕ
count_of kind o accepted = length (list_of kind o accepted)
