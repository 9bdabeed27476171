-- What arrives of plain fields, and the operation that it is.
use mathlib.Core.Path.{◌≡◌, refl, ap, ◌∙◌}
use mathlib.Core.List.{List}
use Prim.Native.Nat.{ℕ, ◌+◌, ◌-◌}
use lib.ListN.{get_or, take, drop}
use Rattle.meaning.specs.Table.{kind_in}
use Rattle.words_layout.specs.Layout.{table_of, objects_in}
use Rattle.words_layout.proofs.Reading.{kinds_part}
use Rattle.words_tags.specs.declared.Station.{Station}
use Rattle.words_tags.specs.declared.Value.{Value}
use Rattle.arrival.specs.Arrives.{arrival_from}

-- the kind that is looked up is the kind that the table says
pub arrival_made : (s : List ℕ) (m kind object code : ℕ) (value : Value) (sender : Station) → m ≡ objects_in s → kind ≡ get_or (take (7 + m - 7) (drop 7 s)) object 0 →
    arrival_from kind object code value sender ≡ arrival_from (kind_in (table_of s).header object) object code value sender
unfolding kind_in
arrival_made s m kind object code value sender e f = ap (λ (found : ℕ). arrival_from found object code value sender) (f ∙ rw (kinds_part s m e) refl)
