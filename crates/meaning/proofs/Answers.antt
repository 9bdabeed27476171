-- A promise that is an equation lets one answer fit, and so do two side by side: the contracts of the library say so what is returned and all that is lent.
use mathlib.Core.Path.{◌≡◌, sym, ◌∙◌}

pub no_second_answer : {A : Type 0} (promised : A) {first second : A} → first ≡ promised → second ≡ promised → first ≡ second
no_second_answer promised e f = e ∙ sym f

pub no_second_pair : {A B : Type 0} (result : A) (space : B) {first second : A} {here there : B} → (first ≡ result) × (here ≡ space) → (second ≡ result) × (there ≡ space) → (first ≡ second) × (here ≡ there)
no_second_pair result space e f = (no_second_answer result e.0 f.0, no_second_answer space e.1 f.1)
