-- The masters of some sets become their shadows, by one commit: the staged states of all sets of these masters are live by the new block.
-- Sets of these masters may go offline by it.
use Rattle.std.proofs.Common.{◌≡◌, ◌≢◌, ◌⊎◌, inl, inr, ℕ, zero, suc, ◌+◌, ◌/◌, ◌<◌, ◌≤◌, Bool, true, false, not, cond, eqb, ◌||◌, ◌&&◌, nat_lt, Option, None, Some, List, [], ◌∷◌, length, map, get_or, Result, OnOk, ◌∙◌, sym, refl, ap, subst, arith}
use Rattle.std.specs.List.{filter_map}
use Rattle.std.specs.Option.{option_map, option_map_or}
use Rattle.std.proofs.Math.Path.{fun_ext}
use Rattle.std.proofs.lemmas.Bool.{cases_eq, eq-eqb, ne_eqb, eqb-true}
use Rattle.avs_seg.specs.Image.{Image, Block, block_at, tabulate}
use Rattle.avs_dev.specs.Seen.{Seen, shown}
use Rattle.avs_dev.proofs.Going.{shown_told}
use Rattle.avs_model.specs.ShadowSets.{ChunkList, no_chunks, together, apart_from, Standing, Offline, is_online, is_offline, is_compact, is_independent, lists_overwritten, overwritten, turned_to_master, gone_offline, ShadowState}
use Rattle.avs_model.specs.GroupStates.{GroupState, has_master}
use Rattle.avs_model.specs.GroupStages.{Change, ToMaster, GoesOffline, change_of, offline_first, is_to_master, source_of, overwritten_chunks, as_other, changed_by, changed_image, new_set, committed, Commit}
use Rattle.avs_sets.specs.Says.{SlotSays, BlockSays}
use Rattle.avs_sets.specs.Sets.{SetSeen, ChunkPlace, chunks_of, shadow_disk, block_in, read_from, shadow_block, IsAlike}
use Rattle.avs_sets.specs.Meaning.{GroupSeen, set_of, disk_in, image_in, over_image, slot_of, is_enabled, standing_of, chunks_by, read, pick, picked, volume_by, chunks_with, chunks_touched, lists_by, contents_by, shadow_over, behind_of, state_of, set_by, group_by}
use Rattle.avs_sets.specs.Whole.{IsPlaced, AreSlotsApart, IsWholeSet, AreWhole, IsWhole, IsStep, IsInStep, IsKept}
use Rattle.avs_sets.specs.Goes.{Goes, Commits}
use Rattle.avs_sets.specs.Commands.{IsNext, restored, overtaken, Restores, Overtaken, PutOffline}
use Rattle.avs_sets.proofs.Lift.{same_tabulate, same_contents, pick_own, none_back, own_back}
use Rattle.avs_sets.proofs.Lifted.{some_is}
use Rattle.avs_sets.proofs.Changes.{makes}
use Rattle.avs_sets.proofs.Found.{forgotten}
use Rattle.avs_sets.proofs.Commits.{commit_turns}
use Rattle.avs_sets.proofs.Sources.{before, first, find_none, find_own, first_slot, first_master, overwritten_none}
use Rattle.avs_sets.proofs.Renewing.{within, none_of, Fits, SamePick, pick_by, fits_of}

never : true ≡ false → ⊥
never e = cc

-- ---- what becomes of a state

two_cases : {P : Type 0} (n : ℕ) → (n ≡ 2 → P) → (n ≢ 2 → P) → P
two_cases n one other = elim (cases_eq n 2) [ inl e ↦ one e | inr ne ↦ other ne ]

back_two : (n : ℕ) → n ≡ 2 → restored n ≡ 3
back_two n e = ap (λ (b : Bool). cond b 3 n) (eq-eqb n 2 e)

back_else : (n : ℕ) → n ≢ 2 → restored n ≡ n
back_else n ne = ap (λ (b : Bool). cond b 3 n) (ne_eqb n 2 ne)

split_two : (m n : ℕ) → m ≡ 2 → overtaken m n ≡ 2
split_two m n e = ap (λ (b : Bool). cond b 2 n) (eq-eqb m 2 e)

split_else : (m n : ℕ) → m ≢ 2 → overtaken m n ≡ n
split_else m n ne = ap (λ (b : Bool). cond b 2 n) (ne_eqb m 2 ne)

low_three : (n : ℕ) → n < 3 → n ≢ 3
low_three n lt e = omega (arith, lt, e)

own_zero : (n : ℕ) → eqb (restored n) 0 ≡ eqb n 0
own_zero n = two_cases n (λ e. ap (λ (k : ℕ). eqb k 0) (back_two n e) ∙ sym (ap (λ (k : ℕ). eqb k 0) e)) (λ ne. ap (λ (k : ℕ). eqb k 0) (back_else n ne))

own_some : (n : ℕ) → restored n ≢ 0 → n ≢ 0
own_some n ne z = ne (two_cases n (λ e. absurd (zero_two n z e)) (λ other. back_else n other ∙ z))
  where
    zero_two : (n : ℕ) → n ≡ 0 → n ≡ 2 → ⊥
    zero_two n a b = omega (arith, a, b)

some_own : (n : ℕ) → n ≢ 0 → restored n ≢ 0
some_own n ne z = two_cases n (λ e. three_zero _ (back_two n e) z) (λ other. ne (sym (back_else n other) ∙ z))
  where
    three_zero : (m : ℕ) → m ≡ 3 → m ≡ 0 → ⊥
    three_zero m a b = omega (arith, a, b)

own_two : (n : ℕ) → eqb (restored n) 2 ≡ false
own_two n = two_cases n (λ e. ap (λ (k : ℕ). eqb k 2) (back_two n e)) (λ ne. ap (λ (k : ℕ). eqb k 2) (back_else n ne) ∙ ne_eqb n 2 ne)

own_three : (n : ℕ) → n < 3 → eqb (restored n) 3 ≡ eqb n 2
own_three n lt = two_cases n (λ e. ap (λ (k : ℕ). eqb k 3) (back_two n e) ∙ sym (eq-eqb n 2 e)) (λ ne. ap (λ (k : ℕ). eqb k 3) (back_else n ne) ∙ ne_eqb n 3 (low_three n lt) ∙ sym (ne_eqb n 2 ne))

other_zero : (m n : ℕ) → eqb (overtaken m n) 0 ≡ (not (eqb m 2) && eqb n 0)
other_zero m n = go (eqb m 2)
  where
    go : (b : Bool) → eqb (cond b 2 n) 0 ≡ (not b && eqb n 0)
    go true = refl
    go false = refl

other_some : (m n : ℕ) → not (eqb (overtaken m n) 0) ≡ (eqb m 2 || not (eqb n 0))
other_some m n = go (eqb m 2)
  where
    go : (b : Bool) → not (eqb (cond b 2 n) 0) ≡ (b || not (eqb n 0))
    go true = refl
    go false = refl

other_two : (m n : ℕ) → eqb (overtaken m n) 2 ≡ (eqb m 2 || eqb n 2)
other_two m n = go (eqb m 2)
  where
    go : (b : Bool) → eqb (cond b 2 n) 2 ≡ (b || eqb n 2)
    go true = refl
    go false = refl

split_low : (m n : ℕ) → n < 3 → overtaken m n < 3
split_low m n lt = two_cases m (λ e. omega (arith, split_two m n e)) (λ ne. omega (arith, split_else m n ne, lt))

was_one : (n : ℕ) → restored n ≡ 1 → n ≡ 1
was_one n e = two_cases n (λ two. absurd (three_one _ (back_two n two) e)) (λ ne. sym (back_else n ne) ∙ e)
  where
    three_one : (m : ℕ) → m ≡ 3 → m ≡ 1 → ⊥
    three_one m a b = omega (arith, a, b)

was_one_too : (m n : ℕ) → overtaken m n ≡ 1 → n ≡ 1
was_one_too m n e = two_cases m (λ two. absurd (two_one _ (split_two m n two) e)) (λ ne. sym (split_else m n ne) ∙ e)
  where
    two_one : (m : ℕ) → m ≡ 2 → m ≡ 1 → ⊥
    two_one m a b = omega (arith, a, b)

was_two : (n : ℕ) → n < 3 → restored n ≡ 3 → n ≡ 2
was_two n lt e = two_cases n (λ two. two) (λ ne. absurd (low_three n lt (sym (back_else n ne) ∙ e)))

or_in : (a b c : Bool) → (a && (b || c)) ≡ ((a && b) || (a && c))
or_in true b c = refl
or_in false b c = refl

and_in : (a b c : Bool) → (a && (not b && c)) ≡ (not (a && b) && (a && c))
and_in true b c = refl
and_in false b c = refl

-- ---- the sets

module _ (says block : BlockSays) (V O : List (Option Seen)) (S : List SetSeen) (changes : List (ℕ × Change)) where
  -- a set of whose master becomes its shadow
  pub record Own (t : SetSeen) : Type 0 where
    pub restores : Restores says block t
    pub change : change_of changes t.slot ≡ Some ToMaster

  -- a set by its place that is one of these, with that master
  pub record Source (v : ℕ) : Type 0 where
    pub k : ℕ
    pub there : k < length S
    pub own : Own (set_of S k)
    pub master : (set_of S k).master ≡ v

  -- another set of such a master
  pub record Other (t : SetSeen) : Type 0 where
    pub source : Source t.master
    pub taken : Overtaken says block V O (set_of S source.k) t
    pub change : change_of changes t.slot ≡ None

  -- one that goes offline
  pub record GoesOff (t : SetSeen) : Type 0 where
    pub source : Source t.master
    pub needed : ℕ
    pub slots : ℕ
    pub puts : PutOffline says block t needed slots
    pub change : change_of changes t.slot ≡ Some (GoesOffline needed slots)

  -- a set of which nothing changes: it is not enabled, or offline, or of another master
  pub record Still (t : SetSeen) : Type 0 where
    pub slot : slot_of block t ≡ slot_of says t
    pub change : change_of changes t.slot ≡ None
    pub aside : is_enabled says t ≡ true → (is_offline (standing_of says t) ≡ true) ⊎ (Source t.master → ⊥)

  module _ (w : AreWhole says V O S) (fits : (k : ℕ) → k < length S → Fits V (set_of S k))
      (which : (k : ℕ) → k < length S → Own (set_of S k) ⊎ Other (set_of S k) ⊎ GoesOff (set_of S k) ⊎ Still (set_of S k))
      (only : (j k : ℕ) → j < length S → k < length S → Own (set_of S j) → Own (set_of S k) → (set_of S j).master ≡ (set_of S k).master → j ≡ k)
      (low : (k j : ℕ) → k < length S → j < length S → Own (set_of S k) → is_enabled says (set_of S j) ≡ true → (set_of S j).master ≡ (set_of S k).master
      → (c : ℕ) → c < chunks_of (set_of S j) → (chunks_by says (set_of S j)).state c < 3) where
    long : (v : ℕ) → length (image_in V v) ≡ (disk_in V v).size
    long v = ap (λ (img : Image). length img) (shown_told (disk_in V v) (w.volumes_told v)) ∙ w.volumes_told v

    same_blocks : (j k : ℕ) → j < length S → k < length S → (set_of S j).master ≡ (set_of S k).master → (set_of S j).size.blocks ≡ (set_of S k).size.blocks
    same_blocks j k lj lk same = sym (fits j lj).blocks ∙ ap (λ (v : ℕ). (disk_in V v).size) same ∙ (fits k lk).blocks

    pub still_enabled : (k : ℕ) → k < length S → is_enabled block (set_of S k) ≡ is_enabled says (set_of S k)
    still_enabled k lt = elim (which k lt) [
      | inl own ↦ own.restores.slot.enabled
      | inr (inl other) ↦ other.taken.slot.enabled
      | inr (inr (inl off)) ↦ ap (λ (x : SlotSays). x.enabled) off.puts.slot
      | inr (inr (inr still)) ↦ ap (λ (x : SlotSays). x.enabled) still.slot
    ]

    -- ---- which set a volume is made from

    is_own : (j : ℕ) → j < length S → is_to_master (change_of changes (set_of S j).slot) ≡ true → Own (set_of S j)
    is_own j lj is = elim (which j lj) [
      | inl own ↦ own
      | inr (inl other) ↦ absurd (never (sym is ∙ ap (λ (c : Option Change). is_to_master c) other.change))
      | inr (inr (inl off)) ↦ absurd (never (sym is ∙ ap (λ (c : Option Change). is_to_master c) off.change))
      | inr (inr (inr still)) ↦ absurd (never (sym is ∙ ap (λ (c : Option Change). is_to_master c) still.change))
    ]

    -- none of the first n sets is one of these
    record NoSource (v n : ℕ) : Type 0 where
      none : (k : ℕ) → k < n → Own (set_of S k) → (set_of S k).master ≢ v

    source_in : (v n : ℕ) → n ≤ length S → Source v ⊎ NoSource v n
    source_in v zero le = inr (record { none = λ k lt. absurd (no k lt) })
      where
        no : (k : ℕ) → k < 0 → ⊥
        no k lt = omega arith
    source_in v (suc n) le = elim (source_in v n (omega (arith, le))) [
      | inl s ↦ inl s
      | inr none ↦ go none (which n (omega (arith, le)))
    ]
      where
        here : NoSource v n → (Own (set_of S n) → (set_of S n).master ≢ v) → NoSource v (suc n)
        here none other = record {
          none = λ k lt own same. elim (cases_eq k n) [
            | inl e ↦ other (subst (λ (x : ℕ). Own (set_of S x)) e own) (ap (λ (x : ℕ). (set_of S x).master) (sym e) ∙ same)
            | inr ne ↦ none.none k (omega (arith, lt, ne)) own same
          ];
        }

        not_own : (c : Option Change) → is_to_master c ≡ false → change_of changes (set_of S n).slot ≡ c → Own (set_of S n) → ⊥
        not_own c is change own = never (sym (ap (λ (x : Option Change). is_to_master x) own.change) ∙ ap (λ (x : Option Change). is_to_master x) change ∙ is)

        go : NoSource v n → Own (set_of S n) ⊎ Other (set_of S n) ⊎ GoesOff (set_of S n) ⊎ Still (set_of S n) → Source v ⊎ NoSource v (suc n)
        go none (inl own) = elim (cases_eq (set_of S n).master v) [
          | inl same ↦ inl (record { k = n; there = omega (arith, le); own = own; master = same })
          | inr ne ↦ inr (here none (λ o. ne))
        ]
        go none (inr (inl other)) = inr (here none (λ o. absurd (not_own None refl other.change o)))
        go none (inr (inr (inl off))) = inr (here none (λ o. absurd (not_own (Some (GoesOffline off.needed off.slots)) refl off.change o)))
        go none (inr (inr (inr still))) = inr (here none (λ o. absurd (not_own None refl still.change o)))

    source_or : (v : ℕ) → Source v ⊎ (Source v → ⊥)
    source_or v = elim (source_in v (length S) (omega arith)) [
      | inl s ↦ inl s
      | inr none ↦ inr (λ s. none.none s.k s.there s.own s.master)
    ]

    abbrev test : ℕ → ShadowState → Bool
    test v set = has_master v set && is_to_master (change_of changes set.slot)

    both_true : (a b : Bool) → a ≡ true → b ≡ true → (a && b) ≡ true
    both_true a b x y = ap (λ (z : Bool). z && b) x ∙ y

    not_both : (a b : Bool) → (a ≡ true → b ≡ true → ⊥) → (a && b) ≡ false
    not_both true true h = absurd (h refl refl)
    not_both true false h = refl
    not_both false b h = refl

    fails : (v j : ℕ) → j < length S → (Own (set_of S j) → (set_of S j).master ≢ v) → test v (first says V O S changes (set_by says V O (set_of S j))) ≡ false
    fails v j lj other = not_both _ _ (λ master to. other
        (is_own j lj (sym (ap (λ (n : ℕ). is_to_master (change_of changes n)) (first_slot (change_of changes (set_of S j).slot) (set_by says V O (set_of S j)))) ∙ to))
        (sym (first_master (change_of changes (set_of S j).slot) (set_by says V O (set_of S j))) ∙ eqb-true _ v master))

    no_source : (v : ℕ) → (Source v → ⊥) → source_of changes (before says V O S changes) v ≡ None
    no_source v none = find_none (λ t. is_enabled says t) (λ t. set_by says V O t) (first says V O S changes) (test v) S
        (λ j lj live. fails v j lj (λ own same. none (record { k = j; there = lj; own = own; master = same })))

    source_is : (v : ℕ) (s : Source v) → source_of changes (before says V O S changes) v ≡ Some (set_by says V O (set_of S s.k))
    source_is v s =
        find_own (λ t. is_enabled says t) (λ t. set_by says V O t) (first says V O S changes) (test v) S s.k s.there s.own.restores.live
        (both_true _ _ (eq-eqb _ v (first_master (change_of changes (set_of S s.k).slot) (set_by says V O (set_of S s.k)) ∙ s.master))
        (ap (λ (n : ℕ). is_to_master (change_of changes n)) (first_slot (change_of changes (set_of S s.k).slot) (set_by says V O (set_of S s.k))) ∙ ap (λ (c : Option Change). is_to_master c) s.own.change))
        (λ j lj ne live. fails v j lj (λ own same. ne (only j s.k lj s.there own s.own (same ∙ sym s.master))))
        ∙ ap (λ (c : Option Change). Some (offline_first c (set_by says V O (set_of S s.k)))) s.own.change

    -- ---- no other set of such a master has a chunk on its shadow alone

    now_low : (k j : ℕ) → k < length S → j < length S → Own (set_of S k) → j ≢ k → (set_of S j).master ≡ (set_of S k).master → is_enabled says (set_of S j) ≡ true
        → (c : ℕ) → c < chunks_of (set_of S j) → (chunks_by block (set_of S j)).state c ≢ 3
    now_low k j lk lj own ne same live c l three = elim (which j lj) [
      | inl mine ↦ ne (only j k lj lk mine own same)
      | inr (inl other) ↦ low_three _ (split_low _ _ (low k j lk lj own live same c l)) (sym (other.taken.states.states c l) ∙ three)
      | inr (inr (inl off)) ↦ low_three _ (low k j lk lj own live same c l) (sym (ap (λ (x : SlotSays). ((set_of S j).area x.area_b).state c) off.puts.slot) ∙ three)
      | inr (inr (inr still)) ↦ low_three _ (low k j lk lj own live same c l) (sym (ap (λ (x : SlotSays). ((set_of S j).area x.area_b).state c) still.slot) ∙ three)
    ]

    -- ---- the set that a master becomes

    module _ (k : ℕ) (kt : k < length S) (own : Own (set_of S k)) where
      abbrev master : Image
      master = image_in V (set_of S k).master

      abbrev was : ℕ → ℕ
      was = (chunks_by says (set_of S k)).state

      abbrev now : ℕ → ℕ
      now = (chunks_by block (set_of S k)).state

      low_own : (c : ℕ) → c < chunks_of (set_of S k) → was c < 3
      low_own c l = low k k kt kt own own.restores.live refl c l

      stands_own : (i : ℕ) → i / 64 < chunks_of (set_of S k) → was (i / 64) ≢ 0 → (read block O (set_of S k)).stands i ≡ (read says O (set_of S k)).stands i
      stands_own i c ne = ap (λ (q : ChunkPlace). block_in (shown (shadow_disk (set_of S k))) (over_image O (set_of S k).over) q i)
          (own.restores.places.each (i / 64) (λ z. some_own _ ne (sym (own.restores.states.states (i / 64) c) ∙ z)))

      alike_own : IsAlike (read says O (set_of S k)) master
      alike_own = (w.each k kt).alike own.restores.live (ap (λ (x : Standing). is_online x) own.restores.online)

      zero_two : (n : ℕ) → n ≡ 0 → n ≡ 2 → ⊥
      zero_two n a b = omega (arith, a, b)

      one : (n : ℕ) → n < 3 → n ≢ 2 → n ≢ 0 → n ≡ 1
      one n lt a b = omega (arith, lt, a, b)

      block_now : (i : ℕ) → i < (set_of S k).size.blocks → pick block O S (set_of S k).master i (block_at master i) ≡ shadow_block (read says O (set_of S k)) master i
      block_now i l =
          let c : i / 64 < chunks_of (set_of S k) = omega (arith, l) in
          pick_own block O S (set_of S k).master i (block_at master i) k kt (λ j lj ne. none_back block (set_of S j) (set_of S k).master i (λ on same three.
          now_low k j kt lj own ne same (sym (still_enabled j lj) ∙ on) (i / 64) (omega (arith, l, same_blocks j k lj kt same)) three))
          ∙ ap (λ (b : Bool). cond b ((read block O (set_of S k)).stands i) (block_at master i))
          (own_back _ _ (eqb (now (i / 64)) 3) (still_enabled k kt ∙ own.restores.live) (eq-eqb _ _ refl) ∙ ap (λ (n : ℕ). eqb n 3) (own.restores.states.states (i / 64) c) ∙ own_three _ (low_own (i / 64) c))
          ∙ two_cases (was (i / 64))
          (λ e. ap (λ (b : Bool). cond b ((read block O (set_of S k)).stands i) (block_at master i)) (eq-eqb _ 2 e)
          ∙ stands_own i c (λ z. zero_two _ z e)
          ∙ sym (ap (λ (b : Bool). cond b (block_at master i) ((read says O (set_of S k)).stands i)) (ne_eqb _ 0 (λ z. zero_two _ z e))))
          (λ ne. ap (λ (b : Bool). cond b ((read block O (set_of S k)).stands i) (block_at master i)) (ne_eqb _ 2 ne) ∙ elim (cases_eq (was (i / 64)) 0) [
            | inl z ↦ sym (ap (λ (b : Bool). cond b (block_at master i) ((read says O (set_of S k)).stands i)) (eq-eqb _ 0 z))
            | inr nz ↦ sym (alike_own.same i l (one _ (low_own (i / 64) c) ne nz)) ∙ sym (ap (λ (b : Bool). cond b (block_at master i) ((read says O (set_of S k)).stands i)) (ne_eqb _ 0 nz))
          ])

      volume_now : picked block O S (set_of S k).master master ≡ (set_by says V O (set_of S k)).contents.image
      volume_now =
          let e : length master ≡ (set_of S k).size.blocks = long (set_of S k).master ∙ (fits k kt).blocks in
          same_tabulate _ _ _ _ e (λ i l. block_now i (omega (arith, l, e)))
          ∙ sym (ap (λ (x : Standing). (contents_by x (shadow_over (read says O (set_of S k)) master) (behind_of (set_of S k))).image) own.restores.online)

      image_same : shadow_over (read block O (set_of S k)) master ≡ shadow_over (read says O (set_of S k)) master
      image_same = same_tabulate _ _ _ _ refl (λ i l.
          let c : i / 64 < chunks_of (set_of S k) = omega (arith, l) in
          ap (λ (b : Bool). cond b (block_at master i) ((read block O (set_of S k)).stands i)) (ap (λ (n : ℕ). eqb n 0) (own.restores.states.states (i / 64) c) ∙ own_zero (was (i / 64)))
          ∙ elim (cases_eq (was (i / 64)) 0) [
            | inl z ↦ ap (λ (b : Bool). cond b (block_at master i) ((read block O (set_of S k)).stands i)) (eq-eqb _ 0 z) ∙ sym (ap (λ (b : Bool). cond b (block_at master i) ((read says O (set_of S k)).stands i)) (eq-eqb _ 0 z))
            | inr nz ↦ ap (λ (x : Block). cond (eqb (was (i / 64)) 0) (block_at master i) x) (stands_own i c nz)
          ])

      count : (q q' : ℕ → Bool) → ((m : ℕ) → m < 3 → q' (restored m) ≡ q m) → ◌≡◌ {A = ChunkList} (λ c. nat_lt c (chunks_of (set_of S k)) && q' (now c)) (λ c. nat_lt c (chunks_of (set_of S k)) && q (was c))
      count q q' same = within (chunks_of (set_of S k)) (λ c. q' (now c)) (λ c. q (was c)) (λ c l. ap q' (own.restores.states.states c l) ∙ same (was c) (low_own c l))

      own_is : set_by block V O (set_of S k) ≡ turned_to_master (set_by says V O (set_of S k))
      own_is = λ p. record {
        slot = (set_of S k).slot;
        kind = (set_of S k).kind;
        master = (set_of S k).master;
        size = (set_of S k).size;
        over = (set_of S k).over;
        lists = record {
          touched = ap (λ (l : ChunkList). cond (is_independent (set_of S k).kind) no_chunks l) (count (λ m. not (eqb m 0)) (λ m. not (eqb m 0)) (λ m l. ap not (own_zero m))) p;
          moved = (count (λ m. false) (λ m. eqb m 2) (λ m l. own_two m) ∙ none_of (chunks_of (set_of S k))) p;
          left = ap (λ (l : ChunkList). cond (is_independent (set_of S k).kind) l no_chunks) (count (λ m. eqb m 0) (λ m. eqb m 0) (λ m l. own_zero m)) p;
          back = count (λ m. eqb m 2) (λ m. eqb m 3) (λ m l. own_three m l) p;
          stopped = own.restores.goes_on p;
        };
        standing = own.restores.standing p;
        contents = contents_by (own.restores.standing p) (image_same p) (behind_of (set_of S k));
      }

      own_alike : IsAlike (read block O (set_of S k)) master
      own_alike = record {
        same = λ i l is.
            let c : i / 64 < chunks_of (set_of S k) = omega (arith, l) in
            let old = was_one _ (sym (own.restores.states.states (i / 64) c) ∙ is) in
            stands_own i c (λ z. zero_one _ z old) ∙ alike_own.same i l old;
      }
        where
          zero_one : (n : ℕ) → n ≡ 0 → n ≡ 1 → ⊥
          zero_one n a b = omega (arith, a, b)

    -- ---- another set of its master

    module _ (j : ℕ) (lt : j < length S) (other : Other (set_of S j)) where
      abbrev master_there : Image
      master_there = image_in V (set_of S j).master

      abbrev from_was : ℕ → ℕ
      from_was = (chunks_by says (set_of S other.source.k)).state

      abbrev there_was : ℕ → ℕ
      there_was = (chunks_by says (set_of S j)).state

      abbrev there_now : ℕ → ℕ
      there_now = (chunks_by block (set_of S j)).state

      low_there : (c : ℕ) → c < chunks_of (set_of S j) → there_was c < 3
      low_there c l = low other.source.k j other.source.there lt other.source.own other.taken.live (sym other.source.master) c l

      stands_there : (i : ℕ) → there_was (i / 64) ≢ 0 → (read block O (set_of S j)).stands i ≡ (read says O (set_of S j)).stands i
      stands_there i ne = ap (λ (q : ChunkPlace). block_in (shown (shadow_disk (set_of S j))) (over_image O (set_of S j).over) q i) (other.taken.places (i / 64) ne)

      chunks_same : chunks_of (set_of S other.source.k) ≡ chunks_of (set_of S j)
      chunks_same = ap (λ (b : ℕ). (b + 63) / 64) (same_blocks other.source.k j other.source.there lt other.source.master)

      abbrev taken_chunks : ChunkList
      taken_chunks = chunks_with (set_of S other.source.k).size.blocks from_was 2

      moved_there : (c : ℕ) → (nat_lt c (chunks_of (set_of S j)) && eqb (from_was c) 2) ≡ taken_chunks c
      moved_there c = ap (λ (n : ℕ). nat_lt c n && eqb (from_was c) 2) (sym chunks_same)

      count_there : (q : ℕ → Bool) (q' : ℕ → Bool) → ((c : ℕ) → c < chunks_of (set_of S j) → q' (there_now c) ≡ q c)
          → ◌≡◌ {A = ChunkList} (λ c. nat_lt c (chunks_of (set_of S j)) && q' (there_now c)) (λ c. nat_lt c (chunks_of (set_of S j)) && q c)
      count_there q q' same = within (chunks_of (set_of S j)) (λ c. q' (there_now c)) q same

      with_taken : (q q' : ℕ → Bool) → ((m n : ℕ) → q' (overtaken m n) ≡ (eqb m 2 || q n))
          → ◌≡◌ {A = ChunkList} (λ c. nat_lt c (chunks_of (set_of S j)) && q' (there_now c)) (λ c. taken_chunks c || (nat_lt c (chunks_of (set_of S j)) && q (there_was c)))
      with_taken q q' is =
          count_there (λ c. eqb (from_was c) 2 || q (there_was c)) q' (λ c l. ap q' (other.taken.states.states c l) ∙ is _ _)
          ∙ fun_ext (λ c. or_in (nat_lt c (chunks_of (set_of S j))) (eqb (from_was c) 2) (q (there_was c)) ∙ ap (λ (b : Bool). b || (nat_lt c (chunks_of (set_of S j)) && q (there_was c))) (moved_there c))

      block_there : is_online (standing_of says (set_of S j)) ≡ true → (i : ℕ) → i < (set_of S j).size.blocks
          → shadow_block (read block O (set_of S j)) master_there i ≡ shadow_block (read says O (set_of S j)) master_there i
      block_there on i l =
          let is = other.taken.states.states (i / 64) (omega (arith, l)) in
          two_cases (from_was (i / 64))
          (λ e.
          ap (λ (n : ℕ). cond (eqb n 0) (block_at master_there i) ((read block O (set_of S j)).stands i)) (is ∙ split_two _ _ e)
          ∙ elim (cases_eq (there_was (i / 64)) 0) [
            | inl z ↦ other.taken.copied on i l e z ∙ sym (ap (λ (b : Bool). cond b (block_at master_there i) ((read says O (set_of S j)).stands i)) (eq-eqb _ 0 z))
            | inr nz ↦ stands_there i nz ∙ sym (ap (λ (b : Bool). cond b (block_at master_there i) ((read says O (set_of S j)).stands i)) (ne_eqb _ 0 nz))
          ])
          (λ ne.
          ap (λ (n : ℕ). cond (eqb n 0) (block_at master_there i) ((read block O (set_of S j)).stands i)) (is ∙ split_else _ _ ne)
          ∙ elim (cases_eq (there_was (i / 64)) 0) [
            | inl z ↦ ap (λ (b : Bool). cond b (block_at master_there i) ((read block O (set_of S j)).stands i)) (eq-eqb _ 0 z) ∙ sym (ap (λ (b : Bool). cond b (block_at master_there i) ((read says O (set_of S j)).stands i)) (eq-eqb _ 0 z))
            | inr nz ↦ ap (λ (x : Block). cond (eqb (there_was (i / 64)) 0) (block_at master_there i) x) (stands_there i nz)
          ])

      none_back_there : chunks_with (set_of S j).size.blocks there_was 3 ≡ no_chunks
      none_back_there = within (chunks_of (set_of S j)) (λ c. eqb (there_was c) 3) (λ c. false) (λ c l. ne_eqb _ 3 (low_three _ (low_there c l))) ∙ none_of (chunks_of (set_of S j))

      none_apart : no_chunks ≡ apart_from taken_chunks no_chunks
      none_apart = fun_ext (λ c. none (taken_chunks c))
        where
          none : (b : Bool) → false ≡ (not b && false)
          none true = refl
          none false = refl

      lists_there : lists_by (set_of S j).kind (set_of S j).size.blocks there_now (slot_of block (set_of S j)).stopped
          ≡ lists_overwritten (set_of S j).kind taken_chunks (lists_by (set_of S j).kind (set_of S j).size.blocks there_was (slot_of says (set_of S j)).stopped)
      lists_there = λ p. record {
        touched = touched (is_independent (set_of S j).kind) p;
        moved = with_taken (λ n. eqb n 2) (λ n. eqb n 2) other_two p;
        left = left (is_independent (set_of S j).kind) p;
        back = (count_there (λ c. false) (λ n. eqb n 3) (λ c l. ap (λ (n : ℕ). eqb n 3) (other.taken.states.states c l) ∙ ne_eqb _ 3 (low_three _ (split_low _ _ (low_there c l)))) ∙ none_of (chunks_of (set_of S j))
            ∙ none_apart ∙ ap (λ (l : ChunkList). apart_from taken_chunks l) (sym none_back_there)) p;
        stopped = other.taken.stopped p;
      }
        where
          touched : (d : Bool) → cond d no_chunks (chunks_touched (set_of S j).size.blocks there_now)
              ≡ cond d (cond d no_chunks (chunks_touched (set_of S j).size.blocks there_was)) (together taken_chunks (cond d no_chunks (chunks_touched (set_of S j).size.blocks there_was)))
          touched true = refl
          touched false = with_taken (λ n. not (eqb n 0)) (λ n. not (eqb n 0)) other_some

          left : (d : Bool) → cond d (chunks_with (set_of S j).size.blocks there_now 0) no_chunks ≡ apart_from taken_chunks (cond d (chunks_with (set_of S j).size.blocks there_was 0) no_chunks)
          left false = none_apart
          left true =
              count_there (λ c. not (eqb (from_was c) 2) && eqb (there_was c) 0) (λ n. eqb n 0) (λ c l. ap (λ (n : ℕ). eqb n 0) (other.taken.states.states c l) ∙ other_zero (from_was c) (there_was c))
              ∙ fun_ext (λ c. and_in (nat_lt c (chunks_of (set_of S j))) (eqb (from_was c) 2) (eqb (there_was c) 0)
              ∙ ap (λ (b : Bool). not b && (nat_lt c (chunks_of (set_of S j)) && eqb (there_was c) 0)) (moved_there c))

      other_is : set_by block V O (set_of S j) ≡ overwritten taken_chunks (set_by says V O (set_of S j))
      other_is = (λ p. record {
        slot = (set_of S j).slot;
        kind = (set_of S j).kind;
        master = (set_of S j).master;
        size = (set_of S j).size;
        over = (set_of S j).over;
        lists = lists_there p;
        standing = other.taken.standing p;
        contents = (ap (λ (x : Standing). contents_by x (shadow_over (read block O (set_of S j)) master_there) (behind_of (set_of S j))) other.taken.standing
            ∙ same_contents (standing_of says (set_of S j)) (shadow_over (read block O (set_of S j)) master_there) (shadow_over (read says O (set_of S j)) master_there) (behind_of (set_of S j))
            (λ on. same_tabulate _ _ _ _ refl (block_there on))) p;
      })
          ∙ sym (ap (λ (b : Bool). cond b (set_by says V O (set_of S j)) (record (set_by says V O (set_of S j)) { lists = lists_overwritten (set_of S j).kind taken_chunks (set_by says V O (set_of S j)).lists })) other.taken.here)

      other_alike : is_online (standing_of says (set_of S j)) ≡ true → IsAlike (read block O (set_of S j)) master_there
      other_alike on = record {
        same = λ i l is.
            let old = was_one_too _ _ (sym (other.taken.states.states (i / 64) (omega (arith, l))) ∙ is) in
            stands_there i (λ z. zero_one _ z old) ∙ ((w.each j lt).alike other.taken.live on).same i l old;
      }
        where
          zero_one : (n : ℕ) → n ≡ 0 → n ≡ 1 → ⊥
          zero_one n a b = omega (arith, a, b)

    -- ---- the volumes

    volume_by_source : (v : ℕ) → Source v → volume_by block V O S v ≡ option_map (λ image. changed_image changes (before says V O S changes) v image) (volume_by says V O S v)
    volume_by_source v s = subst (λ (x : ℕ). volume_by block V O S x ≡ option_map (λ image. changed_image changes (before says V O S changes) x image) (volume_by says V O S x)) s.master
        (ap (λ (o : Option Seen). option_map (λ disk. picked block O S (set_of S s.k).master (shown disk)) o) there
        ∙ ap (λ (img : Image). Some img) (volume_now s.k s.there s.own)
        ∙ sym (ap (λ (o : Option Seen). option_map (λ image. changed_image changes (before says V O S changes) (set_of S s.k).master image) (option_map (λ disk. picked says O S (set_of S s.k).master (shown disk)) o)) there
        ∙ ap (λ (o : Option ShadowState). Some (option_map_or (λ from. from.contents.image) o (picked says O S (set_of S s.k).master (image_in V (set_of S s.k).master))))
        (source_is (set_of S s.k).master (record { k = s.k; there = s.there; own = s.own; master = refl }))))
      where
        there : get_or V (set_of S s.k).master None ≡ Some (disk_in V (set_of S s.k).master)
        there = some_is (get_or V (set_of S s.k).master None) (fits s.k s.there).seat

    picks_still : (v : ℕ) → (Source v → ⊥) → (i : ℕ) (d : Block) → pick block O S v i d ≡ pick says O S v i d
    picks_still v none i d = pick_by says block O S v i d each
      where
        aside : (j : ℕ) → ((set_of S j).master ≢ v) → SamePick says block v i (set_of S j)
        aside j ne = inr (none_back block (set_of S j) v i (λ live is three. ne is), none_back says (set_of S j) v i (λ live is three. ne is))

        of_source : (j : ℕ) → Source (set_of S j).master → (set_of S j).master ≢ v
        of_source j s is = none (record { k = s.k; there = s.there; own = s.own; master = s.master ∙ is })

        each : (j : ℕ) → j < length S → SamePick says block v i (set_of S j)
        each j lj = elim (which j lj) [
          | inl own ↦ aside j (of_source j (record { k = j; there = lj; own = own; master = refl }))
          | inr (inl other) ↦ aside j (of_source j other.source)
          | inr (inr (inl off)) ↦ aside j (of_source j off.source)
          | inr (inr (inr still)) ↦ inl still.slot
        ]

    volume_still : (v : ℕ) → (Source v → ⊥) → volume_by block V O S v ≡ option_map (λ image. changed_image changes (before says V O S changes) v image) (volume_by says V O S v)
    volume_still v none =
        ap (λ (f : Image → Image). option_map (λ disk. f (shown disk)) (get_or V v None)) (λ p img. tabulate (length img) (λ i. picks_still v none i (block_at img i) p))
        ∙ sym (image_still (volume_by says V O S v))
      where
        image_still : (o : Option Image) → option_map (λ image. changed_image changes (before says V O S changes) v image) o ≡ o
        image_still None = refl
        image_still (Some image) = ap (λ (s : Option ShadowState). Some (option_map_or (λ from. from.contents.image) s image)) (no_source v none)

    volume_is : (v : ℕ) → volume_by block V O S v ≡ option_map (λ image. changed_image changes (before says V O S changes) v image) (volume_by says V O S v)
    volume_is v = elim (source_or v) [
      | inl s ↦ volume_by_source v s
      | inr none ↦ volume_still v none
    ]

    -- ---- the group

    -- a set, by what its slot says
    abbrev state_at : SetSeen → SlotSays → ShadowState
    state_at t slot = state_of t slot (read_from (t.area slot.area_b) t.size.blocks (shown (shadow_disk t)) (over_image O t.over)) (image_in V t.master) (behind_of t)

    abbrev then_by : Option Change → ShadowState → Option ShadowState
    then_by change set = changed_by changes (before says V O S changes) (change_of changes (offline_first change set).slot) (offline_first change set)

    unchanged : (k : ℕ) → change_of changes (set_of S k).slot ≡ None → then_by (change_of changes (set_of S k).slot) (set_by says V O (set_of S k)) ≡ Some (as_other changes (before says V O S changes) (set_by says V O (set_of S k)))
    unchanged k change =
        ap (λ (c : Option Change). then_by c (set_by says V O (set_of S k))) change
        ∙ ap (λ (c : Option Change). changed_by changes (before says V O S changes) c (set_by says V O (set_of S k))) change

    gone_is : (k : ℕ) (needed slots : ℕ) → PutOffline says block (set_of S k) needed slots → gone_offline needed slots (set_by says V O (set_of S k)) ≡ set_by block V O (set_of S k)
    gone_is k needed slots puts =
        (λ p. record (set_by says V O (set_of S k)) {
          standing = Offline needed slots;
          contents = ap (λ (x : Standing). record (contents_by x (shadow_over (read says O (set_of S k)) (image_in V (set_of S k).master)) (behind_of (set_of S k))) { image = [] }) puts.online p;
        })
        ∙ ap (λ (x : SlotSays). state_at (set_of S k) x) (sym puts.slot)

    set_changed : (k : ℕ) → k < length S → is_enabled says (set_of S k) ≡ true → then_by (change_of changes (set_of S k).slot) (set_by says V O (set_of S k)) ≡ Some (set_by block V O (set_of S k))
    set_changed k lt live = elim (which k lt) [
      | inl own ↦
          ap (λ (c : Option Change). then_by c (set_by says V O (set_of S k))) own.change
          ∙ ap (λ (c : Option Change). changed_by changes (before says V O S changes) c (set_by says V O (set_of S k))) own.change
          ∙ ap (λ (set : ShadowState). Some set) (sym (own_is k lt own))
      | inr (inl other) ↦
          unchanged k other.change
          ∙ ap (λ (o : Option ShadowState). Some (overwritten (option_map_or (λ from. from.lists.moved) o no_chunks) (set_by says V O (set_of S k)))) (source_is (set_of S k).master other.source)
          ∙ ap (λ (set : ShadowState). Some set) (sym (other_is k lt other))
      | inr (inr (inl off)) ↦
          ap (λ (c : Option Change). then_by c (set_by says V O (set_of S k))) off.change
          ∙ ap (λ (c : Option Change). changed_by changes (before says V O S changes) c (gone_offline off.needed off.slots (set_by says V O (set_of S k)))) off.change
          ∙ ap (λ (set : ShadowState). Some set) (gone_is k off.needed off.slots off.puts)
      | inr (inr (inr still)) ↦
          unchanged k still.change
          ∙ ap (λ (set : ShadowState). Some set) (spared still)
          ∙ ap (λ (x : SlotSays). Some (state_at (set_of S k) x)) (sym still.slot)
    ]
      where
        spared : Still (set_of S k) → as_other changes (before says V O S changes) (set_by says V O (set_of S k)) ≡ set_by says V O (set_of S k)
        spared still = elim (still.aside live) [
          | inl off ↦ ap (λ (b : Bool). cond b (set_by says V O (set_of S k)) (record (set_by says V O (set_of S k)) {
            lists = lists_overwritten (set_of S k).kind (overwritten_chunks changes (before says V O S changes) (set_of S k).master) (set_by says V O (set_of S k)).lists;
          })) off
          | inr none ↦
              ap (λ (o : Option ShadowState). overwritten (option_map_or (λ from. from.lists.moved) o no_chunks) (set_by says V O (set_of S k))) (no_source (set_of S k).master none)
              ∙ overwritten_none (set_by says V O (set_of S k))
        ]

    -- the group stands for the commit by the new block
    pub group_restored : (note : Option (List ℕ)) → IsNext says block note → filter_map (λ one. new_set (before says V O S changes) one) changes ≡ []
        → group_by block V O S ≡ committed (group_by says V O S) changes note
    group_restored note next none_new = makes says block V O S changes note (record {
      note_is = next.note;
      sequence_is = next.sequence;
      none_new = none_new;
      each = λ k lt. record {
        stays = λ live is. set_changed k lt live;
        goes = λ live is. absurd (never (sym live ∙ sym (still_enabled k lt) ∙ is));
        comes = λ live. still_enabled k lt ∙ live;
      };
      images = λ v l. volume_is v;
    })

    -- ---- and it is whole by it: owed are the places of what is staged

    module _ (placed : (k : ℕ) → k < length S → is_enabled block (set_of S k) ≡ true → IsPlaced block (set_of S k))
        (slots : (j k : ℕ) → j < length S → k < length S → j ≢ k → AreSlotsApart block (set_of S j) (set_of S k)) where
      same_state : (k : ℕ) (c : ℕ) → (slot_of block (set_of S k)).area_b ≡ (slot_of says (set_of S k)).area_b → (chunks_by block (set_of S k)).state c ≡ (chunks_by says (set_of S k)).state c
      same_state k c is = ap (λ (b : Bool). ((set_of S k).area b).state c) is

      -- a set that stands in a chunk on its shadow alone: it is the one that its master became, or it did so before
      record Before (j c : ℕ) : Type 0 where
        three : (chunks_by says (set_of S j)).state c ≡ 3
        none : Source (set_of S j).master → ⊥

      which_three : (j : ℕ) → j < length S → is_enabled says (set_of S j) ≡ true → (c : ℕ) → c < chunks_of (set_of S j) → (chunks_by block (set_of S j)).state c ≡ 3
          → (Own (set_of S j) × ((chunks_by says (set_of S j)).state c ≡ 2)) ⊎ Before j c
      which_three j lj live c l three = elim (which j lj) [
        | inl own ↦ inl (own, was_two _ (low j j lj lj own live refl c l) (sym (own.restores.states.states c l) ∙ three))
        | inr (inl other) ↦ absurd (low_three _ (split_low _ _ (low other.source.k j other.source.there lj other.source.own live (sym other.source.master) c l)) (sym (other.taken.states.states c l) ∙ three))
        | inr (inr (inl off)) ↦ absurd (low_three _ (low off.source.k j off.source.there lj off.source.own live (sym off.source.master) c l) (sym (same_state j c (ap (λ (x : SlotSays). x.area_b) off.puts.slot)) ∙ three))
        | inr (inr (inr still)) ↦
            let old = sym (same_state j c (ap (λ (x : SlotSays). x.area_b) still.slot)) ∙ three in
            inr (record { three = old; none = λ s. low_three _ (low s.k j s.there lj s.own live (sym s.master) c l) old })
      ]

      splits : (j k : ℕ) → j < length S → k < length S → j ≢ k → is_enabled block (set_of S j) ≡ true → is_enabled block (set_of S k) ≡ true → is_offline (standing_of block (set_of S k)) ≡ false
          → (set_of S j).master ≡ (set_of S k).master → (c : ℕ) → c < chunks_of (set_of S j) → (chunks_by block (set_of S j)).state c ≡ 3 → (chunks_by block (set_of S k)).state c ≡ 2
      splits j k lj lk ne live live' on same c l three = elim (which_three j lj (sym (still_enabled j lj) ∙ live) c l three) [
        | inl (own, two) ↦ elim (which k lk) [
          | inl mine ↦ absurd (ne (only j k lj lk own mine same))
          | inr (inl other) ↦
              let is = only other.source.k j other.source.there lj other.source.own own (other.source.master ∙ sym same) in
              other.taken.states.states c (omega (arith, l, same_blocks j k lj lk same))
              ∙ split_two _ _ (ap (λ (x : ℕ). (chunks_by says (set_of S x)).state c) is ∙ two)
          | inr (inr (inl off)) ↦ absurd (never (sym (ap (λ (x : SlotSays). is_offline x.standing) off.puts.slot) ∙ on))
          | inr (inr (inr still)) ↦ elim (still.aside (sym (still_enabled k lk) ∙ live')) [
            | inl off ↦ absurd (never (sym off ∙ ap (λ (x : SlotSays). is_offline x.standing) (sym still.slot) ∙ on))
            | inr none ↦ absurd (none (record { k = j; there = lj; own = own; master = same }))
          ]
        ]
        | inr b ↦ elim (which k lk) [
          | inl mine ↦ absurd (b.none (record { k = k; there = lk; own = mine; master = sym same }))
          | inr (inl other) ↦ absurd (b.none (record { k = other.source.k; there = other.source.there; own = other.source.own; master = other.source.master ∙ sym same }))
          | inr (inr (inl off)) ↦ absurd (b.none (record { k = off.source.k; there = off.source.there; own = off.source.own; master = off.source.master ∙ sym same }))
          | inr (inr (inr still)) ↦
              same_state k c (ap (λ (x : SlotSays). x.area_b) still.slot)
              ∙ (w.apart j k lj lk ne).splits (sym (still_enabled j lj) ∙ live) (sym (still_enabled k lk) ∙ live') (ap (λ (x : SlotSays). is_offline x.standing) (sym still.slot) ∙ on) same c l b.three
        ]
      ]

      alone : (j k : ℕ) → j < length S → k < length S → j ≢ k → is_enabled block (set_of S j) ≡ true → is_enabled block (set_of S k) ≡ true
          → (set_of S j).master ≡ (set_of S k).master → (c : ℕ) → c < chunks_of (set_of S j) → (chunks_by block (set_of S j)).state c ≡ 3 → (chunks_by block (set_of S k)).state c ≢ 3
      alone j k lj lk ne live live' same c l three = elim (which_three j lj (sym (still_enabled j lj) ∙ live) c l three) [
        | inl (own, two) ↦ now_low j k lj lk own (λ e. ne (sym e)) (sym same) (sym (still_enabled k lk) ∙ live') c (omega (arith, l, same_blocks j k lj lk same))
        | inr b ↦ λ also. elim (which_three k lk (sym (still_enabled k lk) ∙ live') c (omega (arith, l, same_blocks j k lj lk same)) also) [
          | inl (mine, two) ↦ b.none (record { k = k; there = lk; own = mine; master = sym same })
          | inr b' ↦ (w.apart j k lj lk ne).alone (sym (still_enabled j lj) ∙ live) (sym (still_enabled k lk) ∙ live') same c l b.three b'.three
        ]
      ]

      each_whole : (k : ℕ) → k < length S → IsWholeSet block V O (set_of S k)
      each_whole k lt = record { shadow = (w.each k lt).shadow; bitmap = (w.each k lt).bitmap; kind = kind_is; off = compact; placed = placed k lt; alike = alike }
        where
          kind_is : is_enabled block (set_of S k) ≡ true → (slot_of block (set_of S k)).kind ≡ (set_of S k).kind
          kind_is live = let was = (w.each k lt).kind (sym (still_enabled k lt) ∙ live) in elim (which k lt) [
            | inl own ↦ own.restores.slot.kind ∙ was
            | inr (inl other) ↦ other.taken.slot.kind ∙ was
            | inr (inr (inl off)) ↦ ap (λ (x : SlotSays). x.kind) off.puts.slot ∙ was
            | inr (inr (inr still)) ↦ ap (λ (x : SlotSays). x.kind) still.slot ∙ was
          ]

          compact : is_enabled block (set_of S k) ≡ true → is_offline (standing_of block (set_of S k)) ≡ true → is_compact (set_of S k).kind ≡ true
          compact live is = let was = (w.each k lt).off (sym (still_enabled k lt) ∙ live) in elim (which k lt) [
            | inl own ↦ was (ap (λ (x : Standing). is_offline x) (sym own.restores.standing) ∙ is)
            | inr (inl other) ↦ was (ap (λ (x : Standing). is_offline x) (sym other.taken.standing) ∙ is)
            | inr (inr (inl off)) ↦ off.puts.compact
            | inr (inr (inr still)) ↦ was (ap (λ (x : SlotSays). is_offline x.standing) (sym still.slot) ∙ is)
          ]

          alike : is_enabled block (set_of S k) ≡ true → is_online (standing_of block (set_of S k)) ≡ true → IsAlike (read block O (set_of S k)) (image_in V (set_of S k).master)
          alike live on = elim (which k lt) [
            | inl own ↦ own_alike k lt own
            | inr (inl other) ↦ other_alike k lt other (ap (λ (x : Standing). is_online x) (sym other.taken.standing) ∙ on)
            | inr (inr (inl off)) ↦ absurd (never (sym on ∙ ap (λ (x : SlotSays). is_online x.standing) off.puts.slot))
            | inr (inr (inr still)) ↦ subst (λ (x : SlotSays). IsAlike (read_from ((set_of S k).area x.area_b) (set_of S k).size.blocks (shown (shadow_disk (set_of S k))) (over_image O (set_of S k).over)) (image_in V (set_of S k).master)) (sym still.slot)
                ((w.each k lt).alike (sym (still_enabled k lt) ∙ live) (ap (λ (x : SlotSays). is_online x.standing) (sym still.slot) ∙ on))
          ]

      pub whole_restored : AreWhole block V O S
      whole_restored = record {
        volumes_told = w.volumes_told;
        overs_told = w.overs_told;
        each = each_whole;
        apart = λ j k lj lk ne. record {
          splits = λ live live' on same c l three. splits j k lj lk ne live live' on same c l three;
          alone = λ live live' same c l three. alone j k lj lk ne live live' same c l three;
        };
        slots_apart = slots;
      }

-- ---- the call

-- What holds of the sets of an update to the master: what becomes of each, that two named sets have two masters, that no chunk of a set
-- of these masters stands on its shadow alone, and that what is staged has places of its own.
pub record AreRestored (says block : BlockSays) (V O : List (Option Seen)) (S : List SetSeen) (changes : List (ℕ × Change)) : Type 0 where
  pub which : (k : ℕ) → k < length S
      → Own says block V O S changes (set_of S k) ⊎ Other says block V O S changes (set_of S k) ⊎ GoesOff says block V O S changes (set_of S k) ⊎ Still says block V O S changes (set_of S k)
  pub only : (j k : ℕ) → j < length S → k < length S → Own says block V O S changes (set_of S j) → Own says block V O S changes (set_of S k) → (set_of S j).master ≡ (set_of S k).master → j ≡ k
  pub low : (k j : ℕ) → k < length S → j < length S → Own says block V O S changes (set_of S k) → is_enabled says (set_of S j) ≡ true → (set_of S j).master ≡ (set_of S k).master
      → (c : ℕ) → c < chunks_of (set_of S j) → (chunks_by says (set_of S j)).state c < 3
  pub placed : (k : ℕ) → k < length S → is_enabled block (set_of S k) ≡ true → IsPlaced block (set_of S k)
  pub slots : (j k : ℕ) → j < length S → k < length S → j ≢ k → AreSlotsApart block (set_of S j) (set_of S k)

-- the block is written, and the memory of the sets is turned
pub restore_goes : (g : GroupSeen) → IsKept g.volumes g.overs g.sets → (block : BlockSays) (changes : List (ℕ × Change)) (note : Option (List ℕ))
    (S : List SetSeen) (turned : map forgotten S ≡ map forgotten g.sets) {T E : Type 0} (r : Result T E) (mid : GroupSeen) → Commits g block r mid
    → IsNext g.memory block note → ((group : GroupState) → filter_map (λ one. new_set group one) changes ≡ [])
    → (IsWhole g → IsInStep g → AreRestored g.says block g.volumes g.overs g.sets changes)
    → (IsWhole g → IsInStep g → OnOk r ((k : ℕ) → k < length S → IsStep block (set_of S k)))
    → Goes g (Commit changes note ∷ []) r (record g { state = mid.state; says = mid.says; memory = mid.memory; sets = S })
restore_goes g inv block changes note S turned r mid cm next none_new are in_step = commit_turns g block (Commit changes note) S turned r mid cm
    (λ w i. let a = are w i in group_restored g.says block g.volumes g.overs g.sets changes w.disks fits a.which a.only a.low note (subst (λ (b : BlockSays). IsNext b block note) i.block next)
    (none_new (before g.says g.volumes g.overs g.sets changes)))
    (λ w i. let a = are w i in whole_restored g.says block g.volumes g.overs g.sets changes w.disks fits a.which a.only a.low a.placed a.slots)
    in_step
  where
    fits : (k : ℕ) → k < length g.sets → Fits g.volumes (set_of g.sets k)
    fits k lt = fits_of g.volumes g.overs (set_of g.sets k) (inv.held k lt)
