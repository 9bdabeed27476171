-- How one vector lies to another.
use Rattle.std.specs.Prelude.{Bool, true, false}
use Rattle.meaning.specs.Order.{Vector, same, before_by_vector, concurrent_by_vector}
use Rattle.words_tags.specs.declared.Relation.{Relation}
use Rattle.words_tags.specs.declared.Relation.TheVariants.{Before, After, Same, Concurrent}

-- What each of the four says of two vectors.
unfoldable pub says_of : Relation → Vector → Vector → Bool
says_of Before u t = before_by_vector u t
says_of After u t = before_by_vector t u
says_of Same u t = same u t
says_of Concurrent u t = concurrent_by_vector u t

abbrev pub first_of : Bool → Relation → Relation → Relation
first_of true holds others = holds
first_of false holds others = others

-- The one of the four that holds: what it says is true, and what each of the others says is not (proofs/Relations.antt).
unfoldable pub relation_of : Vector → Vector → Relation
relation_of u t =
    first_of (says_of Before u t) Before (first_of (says_of After u t) After (first_of (says_of Same u t) Same Concurrent))
