-- A step of a set is a stage of its group, or none.
use Rattle.std.proofs.Common.{◌≡◌, ◌≢◌, ◌⊎◌, inl, inr, ℕ, suc, ◌<◌, Bool, true, false, cond, eqb, Option, Some, List, [], ◌∷◌, length, map, filter, set, Result, Ok, OnOk, OnErr, ◌∙◌, sym, refl, ap, subst, arith}
use Rattle.std.proofs.lemmas.Bool.{eqb-true}
use Rattle.std.proofs.lemmas.Result.{on_ok_weaker, on_err_weaker}
use Rattle.avs_dev.specs.Seen.{Seen, shown}
use Rattle.avs_dev.proofs.Going.{all_same}
use Rattle.avs_model.specs.ShadowSets.{SetSize, ShadowState, is_independent, is_offline, chunk_written, chunk_copied}
use Rattle.avs_model.specs.GroupStates.{GroupState}
use Rattle.avs_model.specs.GroupStages.{GroupStage, Mark, Copied, after_stage}
use Rattle.avs_sets.specs.Says.{BlockSays}
use Rattle.avs_sets.specs.Sets.{SetSeen, chunks_of}
use Rattle.avs_sets.specs.Meaning.{GroupSeen, set_of, disk_in, disk_at, over_disk, slot_of, is_enabled, standing_of, chunks_by, behind_of, state_of, set_by, meaning}
use Rattle.avs_sets.specs.Whole.{IsFree, IsWhole, IsStep, IsInStep, IsKept}
use Rattle.avs_sets.specs.Goes.{Goes}
use Rattle.avs_sets.specs.Steps.{OnlyDisk, read_over, IsKnown, KeepsSet, ShowsSame, SetsOne, StatesSame, Settles}
use Rattle.avs_sets.proofs.Lists.{changed_at, changed_nothing}
use Rattle.avs_sets.proofs.Marks.{state_same, state_written, state_copied, lists_spared}
use Rattle.avs_sets.proofs.Chains.{stays_same}
use Rattle.avs_sets.proofs.Lifted.{with_step, stays, disks, known, lifts, now_whole, now_step}

-- a stage changes the set of one slot
abbrev pub OneSet : GroupStage → ℕ → (ShadowState → ShadowState) → Type 0
OneSet stage slot change = (group : GroupState) → after_stage group stage ≡ record group { sets = changed_at slot change group.sets }

module _ (g : GroupSeen) (inv : IsKept g.volumes g.overs g.sets) (k : ℕ) (lt : k < length g.sets) (s' : SetSeen) (V' O' : List (Option Seen))
    (only_v : OnlyDisk g.volumes V' (Some (set_of g.sets k).master)) (only_o : OnlyDisk g.overs O' (set_of g.sets k).over) (mine : ℕ → Type 0)
    {T E : Type 0} (r : Result T E) (live : is_enabled g.memory (set_of g.sets k) ≡ true)
    (free : IsWhole g → IsInStep g → (j : ℕ) → j < length g.sets → j ≢ k → (slot : ℕ) → mine slot → IsFree g.says (set_of g.sets j) (set_of g.sets k).over slot) where
  -- what is seen of the set before and after, over the disks of its master and of its overflow volume
  abbrev pub state_was : ShadowState
  state_was = state_of (set_of g.sets k) (slot_of g.says (set_of g.sets k)) (read_over g.says (set_of g.sets k) (over_disk g.overs (set_of g.sets k).over)) (shown (disk_in g.volumes (set_of g.sets k).master)) (behind_of (set_of g.sets k))

  abbrev pub state_now : ShadowState
  state_now = state_of s' (slot_of g.says (set_of g.sets k)) (read_over g.says s' (over_disk O' (set_of g.sets k).over)) (shown (disk_in V' (set_of g.sets k).master)) (behind_of s')

  abbrev pub KnownThen : Type 0
  KnownThen = IsKnown g.says (set_of g.sets k) (disk_in g.volumes (set_of g.sets k).master) (over_disk g.overs (set_of g.sets k).over)

  module _ (st : KeepsSet g.says mine (set_of g.sets k) (disk_in g.volumes (set_of g.sets k).master) (over_disk g.overs (set_of g.sets k).over) r s' (disk_in V' (set_of g.sets k).master) (over_disk O' (set_of g.sets k).over)) where
    steps : IsInStep g → (j : ℕ) → j < length g.sets → IsStep g.says (set_of g.sets j)
    steps i j l = subst (λ (b : BlockSays). IsStep b (set_of g.sets j)) i.block (i.each j l)

    live_too : IsInStep g → is_enabled g.says (set_of g.sets k) ≡ true
    live_too i = subst (λ (b : BlockSays). is_enabled b (set_of g.sets k) ≡ true) i.block live

    pub known_then : IsWhole g → IsInStep g → KnownThen
    known_then w i = known g inv k lt s' V' O' only_v only_o mine r st (live_too i) w.disks (steps i k lt) (free w i)

    pub lift : (w : IsWhole g) (i : IsInStep g) (change : ShadowState → ShadowState) → state_now ≡ change state_was
        → meaning (with_step g V' O' k s') ≡ record (meaning g) { sets = changed_at (set_of g.sets k).slot change (meaning g).sets }
    lift w i change own = lifts g inv k lt s' V' O' only_v only_o mine r st (live_too i) w.disks (steps i k lt) (free w i) change own

    lift_same : (w : IsWhole g) (i : IsInStep g) → state_now ≡ state_was → meaning (with_step g V' O' k s') ≡ meaning g
    lift_same w i own = lift w i (λ x. x) own ∙ ap (λ (l : List ShadowState). record (meaning g) { sets = l }) (changed_nothing (set_of g.sets k).slot (meaning g).sets)

    pub whole_now : IsWhole g → IsInStep g → IsWhole (with_step g V' O' k s')
    whole_now w i = record { state = w.state; disks = now_whole g inv k lt s' V' O' only_v only_o mine r st (live_too i) w.disks (steps i k lt) (free w i) }

    pub step_now : IsWhole g → IsInStep g → OnOk r (IsInStep (with_step g V' O' k s'))
    step_now w i = on_ok_weaker r (λ kn. record {
      block = i.block;
      each = λ j l. subst (λ (b : BlockSays). IsStep b (set_of (set g.sets k s') j)) (sym i.block)
          (now_step g inv k lt s' V' O' only_v only_o mine r st (live_too i) w.disks (steps i k lt) (free w i) kn (steps i) j l);
    }) (st.known (known_then w i))

    -- the step is a stage
    pub set_goes : (stage : GroupStage) (change : ShadowState → ShadowState) → OneSet stage (set_of g.sets k).slot change
        → (KnownThen → OnOk r (state_now ≡ change state_was)) → (KnownThen → OnErr r ((state_now ≡ state_was) ⊎ (state_now ≡ change state_was)))
        → Goes g (stage ∷ []) r (with_step g V' O' k s')
    set_goes stage change one done stopped = record {
      stays = stays g inv k lt s' V' O' only_v only_o mine r st;
      disks = disks g inv k lt s' V' O' only_v only_o mine r st;
      whole = whole_now;
      step = step_now;
      done = λ w i. on_ok_weaker r (λ own. lift w i change own ∙ sym (one (meaning g))) (done (known_then w i));
      stopped = λ w i. on_err_weaker r (λ which. elim which [
        | inl own ↦ inl (lift_same w i own)
        | inr own ↦ inr (inr (lift w i change own ∙ sym (one (meaning g))))
      ]) (stopped (known_then w i));
    }

    -- the step changes nothing that is seen
    pub set_shows : (KnownThen → state_now ≡ state_was) → Goes g [] r (with_step g V' O' k s')
    set_shows same = record {
      stays = stays g inv k lt s' V' O' only_v only_o mine r st;
      disks = disks g inv k lt s' V' O' only_v only_o mine r st;
      whole = whole_now;
      step = step_now;
      done = λ w i. on_ok_weaker r (λ kn. lift_same w i (same (known_then w i))) (st.known (known_then w i));
      stopped = λ w i. everywhere r (lift_same w i (same (known_then w i)));
    }
      where
        everywhere : (q : Result T E) → meaning (with_step g V' O' k s') ≡ meaning g → OnErr q (meaning (with_step g V' O' k s') ≡ meaning g)
        everywhere (Result.Ok x) e = tt
        everywhere (Result.Err x) e = e

  -- ---- nothing that is seen changes

  module _ (st : ShowsSame g.says mine (set_of g.sets k) (disk_in g.volumes (set_of g.sets k).master) (over_disk g.overs (set_of g.sets k).over) r s' (disk_in V' (set_of g.sets k).master) (over_disk O' (set_of g.sets k).over)) where
    pub still_goes : Goes g [] r (with_step g V' O' k s')
    still_goes = set_shows st.keeps (λ kn. state_same (slot_of g.says (set_of g.sets k)) (set_of g.sets k) s' st.keeps.same _ _ _ _ _ _
        (ap (λ (s : SetSize). s.blocks) st.keeps.same.size) (st.shadow kn).shadow (st.keeps.read kn).behind (st.same kn).each)

  -- ---- a chunk is settled

  module _ (chunk target : ℕ) (there : chunk < chunks_of (set_of g.sets k))
      (st : Settles g.says mine (set_of g.sets k) (disk_in g.volumes (set_of g.sets k).master) (over_disk g.overs (set_of g.sets k).over) chunk target r s' (disk_in V' (set_of g.sets k).master) (over_disk O' (set_of g.sets k).over)) where
    blocks_same : s'.size.blocks ≡ (set_of g.sets k).size.blocks
    blocks_same = ap (λ (s : SetSize). s.blocks) st.keeps.same.size

    same_then : (kn : KnownThen) → StatesSame (chunks_by g.says (set_of g.sets k)).state (chunks_by g.says s').state (chunks_of (set_of g.sets k)) → state_now ≡ state_was
    same_then kn same = state_same (slot_of g.says (set_of g.sets k)) (set_of g.sets k) s' st.keeps.same _ _ _ _ _ _ blocks_same (st.shadow kn).shadow (st.keeps.read kn).behind same.each

    marked : target ≡ 2 → is_offline (standing_of g.says (set_of g.sets k)) ≡ false → (kn : KnownThen)
        → SetsOne (chunks_by g.says (set_of g.sets k)).state (chunks_by g.says s').state (chunks_of (set_of g.sets k)) chunk target → state_now ≡ chunk_written chunk state_was
    marked two on kn one = state_written (slot_of g.says (set_of g.sets k)) (set_of g.sets k) s' st.keeps.same _ _ _ _ _ _ blocks_same (st.shadow kn).shadow (st.keeps.read kn).behind chunk target there one.now one.others two on

    copied : target ≡ 1 → (is_independent (set_of g.sets k).kind ≡ false → (set_of g.sets k).memory.state chunk ≡ 3) → (set_of g.sets k).memory.state chunk ≢ 2 → (kn : KnownThen)
        → SetsOne (chunks_by g.says (set_of g.sets k)).state (chunks_by g.says s').state (chunks_of (set_of g.sets k)) chunk target → state_now ≡ chunk_copied chunk state_was
    copied is three two kn one = state_copied (slot_of g.says (set_of g.sets k)) (set_of g.sets k) s' st.keeps.same _ _ _ _ _ _ blocks_same (st.shadow kn).shadow (st.keeps.read kn).behind chunk target there one.now one.others is
        (λ d. sym (kn.chunks.state chunk there) ∙ three d) (λ e. two (kn.chunks.state chunk there ∙ e))

    -- it is split: the chunk is written in a set that is not offline
    pub settle_marks : target ≡ 2 → is_offline (standing_of g.memory (set_of g.sets k)) ≡ false → Goes g (Mark (set_of g.sets k).slot chunk ∷ []) r (with_step g V' O' k s')
    settle_marks two on = record {
      stays = stays g inv k lt s' V' O' only_v only_o mine r st.keeps;
      disks = disks g inv k lt s' V' O' only_v only_o mine r st.keeps;
      whole = whole_now st.keeps;
      step = step_now st.keeps;
      done = λ w i. (made i).done w i;
      stopped = λ w i. (made i).stopped w i;
    }
      where
        made : IsInStep g → Goes g (Mark (set_of g.sets k).slot chunk ∷ []) r (with_step g V' O' k s')
        made i =
            let on' : is_offline (standing_of g.says (set_of g.sets k)) ≡ false = subst (λ (b : BlockSays). is_offline (standing_of b (set_of g.sets k)) ≡ false) i.block on in
            set_goes st.keeps (Mark (set_of g.sets k).slot chunk) (λ x. chunk_written chunk x) (λ group. refl)
            (λ kn. on_ok_weaker r (λ one. marked two on' kn one) (st.done kn))
            (λ kn. on_err_weaker r (λ which. elim which [ inl same ↦ inl (same_then kn same) | inr one ↦ inr (marked two on' kn one) ]) (st.stopped kn))

    -- it is copied: of a set that is not independent where its contents stand on the shadow alone
    pub settle_copies : target ≡ 1 → (is_independent (set_of g.sets k).kind ≡ false → (set_of g.sets k).memory.state chunk ≡ 3) → (set_of g.sets k).memory.state chunk ≢ 2
        → Goes g (Copied (set_of g.sets k).slot chunk ∷ []) r (with_step g V' O' k s')
    settle_copies is three two = set_goes st.keeps (Copied (set_of g.sets k).slot chunk) (λ x. chunk_copied chunk x) (λ group. refl)
        (λ kn. on_ok_weaker r (λ one. copied is three two kn one) (st.done kn))
        (λ kn. on_err_weaker r (λ which. elim which [ inl same ↦ inl (same_then kn same) | inr one ↦ inr (copied is three two kn one) ]) (st.stopped kn))

-- ---- a chunk of an offline set that a write spares

spare_all : (p : SetSeen → Bool) (f : SetSeen → ShadowState) (slot : ℕ) (change : ShadowState → ShadowState) → ((t : SetSeen) → (f t).slot ≡ t.slot) → (S : List SetSeen)
    → ((j : ℕ) → j < length S → p (set_of S j) ≡ true → (set_of S j).slot ≡ slot → change (f (set_of S j)) ≡ f (set_of S j)) → changed_at slot change (map f (filter p S)) ≡ map f (filter p S)
spare_all p f slot change slot_is [] same = refl
spare_all p f slot change slot_is (t ∷ S) same = go (spare_all p f slot change slot_is S (λ j l. same (suc j) (omega (arith, l)))) (p t) refl
  where
    one : p t ≡ true → (b : Bool) → eqb (f t).slot slot ≡ b → cond b (change (f t)) (f t) ≡ f t
    one is true here = same 0 (omega arith) is (sym (slot_is t) ∙ eqb-true (f t).slot slot here)
    one is false here = refl

    go : changed_at slot change (map f (filter p S)) ≡ map f (filter p S) → (b : Bool) → p t ≡ b → changed_at slot change (map f (cond b (t ∷ filter p S) (filter p S))) ≡ map f (cond b (t ∷ filter p S) (filter p S))
    go rest true is = λ i. one is (eqb (f t).slot slot) refl i ∷ rest i
    go rest false is = rest

-- its contents do not stand on the shadow alone: nothing is done, and that is the stage
pub spared : {T E : Type 0} (g : GroupSeen) (inv : IsKept g.volumes g.overs g.sets) (k : ℕ) → k < length g.sets → (chunk : ℕ) → chunk < chunks_of (set_of g.sets k)
    → is_enabled g.memory (set_of g.sets k) ≡ true → is_independent (set_of g.sets k).kind ≡ false → (set_of g.sets k).memory.state chunk ≢ 3 → (x : T)
    → Goes {E = E} g (Copied (set_of g.sets k).slot chunk ∷ []) (Ok x) g
spared g inv k lt chunk there live dependent ne x = record {
  stays = stays_same g;
  disks = all_same (disk_at g) x;
  whole = λ w i. w;
  step = λ w i. i;
  done = λ w i. sym (same i);
  stopped = λ w i. tt;
}
  where
    state_ne : IsInStep g → (chunks_by g.says (set_of g.sets k)).state chunk ≢ 3
    state_ne i three =
        let here = subst (λ (b : BlockSays). is_enabled b (set_of g.sets k) ≡ true) i.block live in
        let step = subst (λ (b : BlockSays). IsStep b (set_of g.sets k)) i.block (i.each k lt) in
        ne ((step.chunks here).state chunk there ∙ ap (λ (b : Bool). ((set_of g.sets k).area b).state chunk) (step.area here) ∙ three)

    one : IsInStep g → (j : ℕ) → j < length g.sets → (set_of g.sets j).slot ≡ (set_of g.sets k).slot → chunk_copied chunk (set_by g.says g.volumes g.overs (set_of g.sets j)) ≡ set_by g.says g.volumes g.overs (set_of g.sets j)
    one i j l is = subst (λ (n : ℕ). chunk_copied chunk (set_by g.says g.volumes g.overs (set_of g.sets n)) ≡ set_by g.says g.volumes g.overs (set_of g.sets n)) (sym (inv.distinct j k l lt is))
        (λ p. record (set_by g.says g.volumes g.overs (set_of g.sets k)) { lists = lists_spared (set_of g.sets k).kind (set_of g.sets k).size.blocks (slot_of g.says (set_of g.sets k)).stopped (chunks_by g.says (set_of g.sets k)).state chunk dependent (state_ne i) p })

    same : IsInStep g → after_stage (meaning g) (Copied (set_of g.sets k).slot chunk) ≡ meaning g
    same i = ap (λ (l : List ShadowState). record (meaning g) { sets = l })
        (spare_all (λ t. is_enabled g.says t) (λ t. set_by g.says g.volumes g.overs t) (set_of g.sets k).slot (λ t. chunk_copied chunk t) (λ t. refl) g.sets (λ j l on is. one i j l is))
