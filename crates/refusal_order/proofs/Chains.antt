-- Each chain of refusals: what the tests say, one after the other, is the first refusal that is given.
use Prim.Native.Nat.{ℕ, suc, ◌*◌, ◌≤◌, ◌<◌}
use mathlib.Core.Path.{◌≡◌, refl, sym, ◌∙◌}
use mathlib.Core.Bool.{Bool, true, false, ◌&&◌}
use mathlib.Core.List.{List, [], ◌∷◌}
use native.Mathlib.Omega.{arith}
use borrow.Author.Tests.{eq-eqb, lt-ltb, le-ltb}
use Rattle.std.proofs.lemmas.Bool.{leb-true, leb-false}
use mir.Val.{Fits}
use mir.Syntax.{w32}
use lib.Dec.{leb, ltb, eqb}
use lib.ListN.{length, get_or}
use Rattle.meaning.specs.Tests.{every, between, all_hold}
use Rattle.meaning.specs.Order.{Vector, entry_limit, at_most, raised}
use Rattle.meaning.specs.Operations.{number_of, allowed}
use Rattle.meaning.specs.Table.{header_rules, in_range, kind_in, greatest_size, greatest_capacity, most_objects}
use Rattle.meaning.specs.Table as table
use Rattle.meaning.specs.Questions.{Asked, fits}
use Rattle.meaning.specs.Refusals.{first_of, well_shaped, declared, operation_allowed, in_time, frame_refusals, issue_refusals, well_asked, asked_refusals, opening_refusals}
use Rattle.meaning.proofs.Tests.{and_left, and_right, between_out}
use Rattle.words_layout.specs.Words.{pieces}
use Rattle.words_layout.specs.Layout.{space_for}
use Rattle.refusal_kind.specs.Asking.{asked_from}
use Rattle.refusal_time.specs.Lasts.{last_of}
use Rattle.refusal_order.specs.Fields.{header_from, header_of_kinds, frame_from, local_from, is_stranger}
use Rattle.refusal_order.specs.declared.Header.{Header}
use Rattle.refusal_order.specs.declared.Sent.{Sent}

-- the vector is as long as the group is large
pub rising_room : (entries size words : ℕ) → entries ≡ size → size * size ≤ words → entries * entries ≤ words
rising_room entries size words e h = rw e h

-- 1: lent words are entries of 32 bits
every_entry : (v : Vector) → ((i : ℕ) → Fits w32 (get_or v i 0)) → every (λ (entry : ℕ). ltb entry entry_limit) v ≡ true
every_entry [] known = refl
every_entry (x ∷ v) known = rw (lt-ltb x entry_limit (omega (arith, known 0))) (every_entry v (λ i. known (suc i)))

shaped : (h : Header) (kinds : List ℕ) (f : Sent) (v : Vector) → length v ≡ h.size → ((i : ℕ) → Fits w32 (get_or v i 0)) → well_shaped (header_from h kinds) (frame_from f v) ≡ true
unfolding well_shaped
shaped h kinds f v e known = rw (eq-eqb (length v) h.size e, every_entry v known) refl

-- the chain of a frame
module _ (h : Header) (kinds : List ℕ) (clock : Vector) (lasts : List ℕ) (f : Sent) (v : Vector) (sized : length v ≡ h.size) (known : (i : ℕ) → Fits w32 (get_or v i 0)) (a : Bool) (ea : a ≡ is_stranger f.sender.0 h.size h.own.0) where
  abbrev refusal : ℕ
  refusal = first_of (frame_refusals (header_from h kinds) clock (pieces h.size h.size lasts) (frame_from f v))

  pub frame_stranger : a ≡ true → 2 ≡ refusal
  unfolding frame_refusals
  frame_stranger t = rw (shaped h kinds f v sized known, sym ea ∙ t) refl

  module _ (fa : a ≡ false) (b : Bool) (eb : b ≡ ltb f.object (length kinds)) where
    pub frame_undeclared : b ≡ false → 3 ≡ refusal
    unfolding frame_refusals declared
    frame_undeclared t = rw (shaped h kinds f v sized known, sym ea ∙ fa, sym eb ∙ t) refl

    module _ (tb : b ≡ true) (kind : ℕ) (ek : kind ≡ get_or kinds f.object 0) (c : Bool) (ec : c ≡ allowed kind f.code f.value.0) where
      allows : allowed (get_or kinds f.object 0) f.code f.value.0 ≡ c
      allows = rw (sym ek) (sym ec)

      pub frame_not_allowed : c ≡ false → 4 ≡ refusal
      unfolding frame_refusals declared operation_allowed kind_in
      frame_not_allowed t = rw (shaped h kinds f v sized known, sym ea ∙ fa, sym eb ∙ tb, allows ∙ t) refl

      module _ (tc : c ≡ true) (d : Bool) (ed : d ≡ leb (get_or v f.sender.0 0) (get_or clock f.sender.0 0)) where
        pub frame_known : d ≡ true → 5 ≡ refusal
        unfolding frame_refusals declared operation_allowed kind_in number_of
        frame_known t = rw (shaped h kinds f v sized known, sym ea ∙ fa, sym eb ∙ tb, allows ∙ tc, sym ed ∙ t) refl

        module _ (fd : d ≡ false) (e : Bool) (ee : e ≡ at_most v (raised clock f.sender.0)) where
          pub frame_early : e ≡ false → 6 ≡ refusal
          unfolding frame_refusals declared operation_allowed kind_in number_of in_time
          frame_early t = rw (shaped h kinds f v sized known, sym ea ∙ fa, sym eb ∙ tb, allows ∙ tc, sym ed ∙ fd, sym ee ∙ t) refl

          module _ (te : e ≡ true) (g : Bool) (eg : g ≡ at_most (last_of (length v) lasts f.sender.0) v) where
            rising : at_most (get_or (pieces h.size h.size lasts) f.sender.0 []) v ≡ g
            rising = rw (sym sized) (sym eg)

            pub frame_falling : g ≡ false → 7 ≡ refusal
            unfolding frame_refusals declared operation_allowed kind_in number_of in_time
            frame_falling t = rw (shaped h kinds f v sized known, sym ea ∙ fa, sym eb ∙ tb, allows ∙ tc, sym ed ∙ fd, sym ee ∙ te, rising ∙ t) refl

            pub frame_passes : g ≡ true → 0 ≡ refusal
            unfolding frame_refusals declared operation_allowed kind_in number_of in_time
            frame_passes t = rw (shaped h kinds f v sized known, sym ea ∙ fa, sym eb ∙ tb, allows ∙ tc, sym ed ∙ fd, sym ee ∙ te, rising ∙ t) refl

-- the chain of a local operation
module _ (h : Header) (kinds : List ℕ) (clock : Vector) (object code value : ℕ) (b : Bool) (eb : b ≡ ltb object (length kinds)) where
  abbrev issued : ℕ
  issued = first_of (issue_refusals (header_from h kinds) clock (local_from object code value))

  pub issue_undeclared : b ≡ false → 3 ≡ issued
  unfolding issue_refusals declared
  issue_undeclared t = rw (sym eb ∙ t) refl

  module _ (tb : b ≡ true) (kind : ℕ) (ek : kind ≡ get_or kinds object 0) (c : Bool) (ec : c ≡ allowed kind code value) where
    permits : allowed (get_or kinds object 0) code value ≡ c
    permits = rw (sym ek) (sym ec)

    pub issue_not_allowed : c ≡ false → 4 ≡ issued
    unfolding issue_refusals declared kind_in
    issue_not_allowed t = rw (sym eb ∙ tb, permits ∙ t) refl

    module _ (tc : c ≡ true) (d : Bool) (ed : d ≡ eqb (suc (get_or clock h.own.0 0)) entry_limit) where
      pub issue_last : d ≡ true → 9 ≡ issued
      unfolding issue_refusals declared kind_in
      issue_last t = rw (sym eb ∙ tb, permits ∙ tc, sym ed ∙ t) refl

      pub issue_passes : d ≡ false → 0 ≡ issued
      unfolding issue_refusals declared kind_in
      issue_passes t = rw (sym eb ∙ tb, permits ∙ tc, sym ed ∙ t) refl

-- the chain of a question
module _ (kinds : List ℕ) (object question value : ℕ) (a : Bool) (ea : a ≡ well_asked (asked_from 0 question value)) where
  abbrev replied : ℕ
  replied = first_of (asked_refusals (header_of_kinds kinds) (asked_from object question value))

  well : well_asked (asked_from object question value) ≡ a
  unfolding well_asked
  well = sym ea

  pub question_misasked : a ≡ false → 1 ≡ replied
  unfolding asked_refusals
  question_misasked t = rw (well ∙ t) refl

  module _ (ta : a ≡ true) (b : Bool) (eb : b ≡ ltb object (length kinds)) where
    pub question_undeclared : b ≡ false → 3 ≡ replied
    unfolding asked_refusals declared
    question_undeclared t = rw (well ∙ ta, sym eb ∙ t) refl

    module _ (tb : b ≡ true) (kind : ℕ) (ek : kind ≡ get_or kinds object 0) (c : Bool) (ec : c ≡ fits question kind) where
      suits : fits question (get_or kinds object 0) ≡ c
      suits = rw (sym ek) (sym ec)

      pub question_unfitted : c ≡ false → 12 ≡ replied
      unfolding asked_refusals declared kind_in
      question_unfitted t = rw (well ∙ ta, sym eb ∙ tb, suits ∙ t) refl

      pub question_passes : c ≡ true → 0 ≡ replied
      unfolding asked_refusals declared kind_in
      question_passes t = rw (well ∙ ta, sym eb ∙ tb, suits ∙ t) refl

-- only the kinds of a header matter to a question
pub asked_by_kinds : (header : table.Header) (asked : Asked) → asked_refusals header asked ≡ asked_refusals (header_of_kinds header.kinds) asked
unfolding asked_refusals declared kind_in
asked_by_kinds header asked = refl

-- what the ranges of an opening bound
module _ (h : Header) (kinds : List ℕ) (r : Bool) (e : r ≡ in_range (header_from h kinds)) (t : r ≡ true) where
  rules : all_hold (header_rules (header_from h kinds)) ≡ true
  unfolding in_range
  rules = sym e ∙ t

  abbrev size_kept : Bool
  size_kept = between 1 greatest_size h.size

  abbrev own_kept : Bool
  own_kept = ltb h.own.0 h.size

  abbrev count_kept : Bool
  count_kept = between 1 most_objects (length kinds)

  abbrev kinds_kept_lem : Bool
  kinds_kept_lem = every (between 1 9) kinds

  abbrev capacity_kept : Bool
  capacity_kept = between 1 (greatest_capacity h.size) h.capacity.0

  pub opening_few : (size : ℕ) → size ≡ h.size → size ≤ greatest_size
  unfolding header_rules
  opening_few size q = rw q (between_out 1 greatest_size h.size (and_left size_kept (own_kept && (count_kept && (kinds_kept_lem && (capacity_kept && true)))) rules)).1

  pub opening_small : h.capacity.0 ≤ greatest_capacity h.size
  unfolding header_rules
  opening_small =
      let past_size = and_right size_kept (own_kept && (count_kept && (kinds_kept_lem && (capacity_kept && true)))) rules in
      let past_own = and_right own_kept (count_kept && (kinds_kept_lem && (capacity_kept && true))) past_size in
      let past_count = and_right count_kept (kinds_kept_lem && (capacity_kept && true)) past_own in
      let past_kinds = and_right kinds_kept_lem (capacity_kept && true) past_count in
      (between_out 1 (greatest_capacity h.size) h.capacity.0 (and_left capacity_kept true past_kinds)).1

-- the refusal of an opening
module _ (h : Header) (kinds : List ℕ) (space : ℕ) (a : Bool) (ea : a ≡ in_range (header_from h kinds)) where
  abbrev opens : ℕ
  opens = first_of (opening_refusals space (space_for h.size h.capacity.0) (header_from h kinds))

  pub opening_range : a ≡ false → 13 ≡ opens
  unfolding opening_refusals
  opening_range t = rw (sym ea ∙ t) refl

  module _ (ta : a ≡ true) (size needed : ℕ) (es : size ≡ h.size) (en : needed ≡ space_for size h.capacity.0) where
    needs : needed ≡ space_for h.size h.capacity.0
    needs = en ∙ rw es refl

    module _ (r : Bool) (er : r ≡ leb needed space) where
      pub opening_passes : r ≡ true → 0 ≡ opens
      unfolding opening_refusals
      opening_passes t =
          let l : needed ≤ space = leb-true needed space (sym er ∙ t) in
          rw (sym ea ∙ ta, le-ltb space (space_for h.size h.capacity.0) (rw (sym needs) l)) refl

      pub opening_space : r ≡ false → 13 ≡ opens
      unfolding opening_refusals
      opening_space t =
          let l : space < needed = leb-false needed space (sym er ∙ t) in
          rw (sym ea ∙ ta, lt-ltb space (space_for h.size h.capacity.0) (rw (sym needs) l)) refl
