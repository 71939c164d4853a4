-- The block of a group is written: one commit, for any block and any stage.
use Rattle.std.proofs.Common.{◌≡◌, ◌≢◌, ◌⊎◌, inl, inr, ℕ, ◌<◌, true, List, [], ◌∷◌, length, map, Result, OnOk, OnErr, ◌∙◌, sym, refl, ap, subst}
use Rattle.std.proofs.lemmas.Result.{on_ok_weaker, on_err_weaker}
use Rattle.avs_seg.specs.Image.{block_at}
use Rattle.avs_seg.specs.Staged.{StoppedIn}
use Rattle.avs_seg.proofs.Exits.{either, ok_exit}
use Rattle.avs_dev.specs.Seen.{Seen, IsTold, GoesOn}
use Rattle.avs_dev.specs.Memory.{counted}
use Rattle.avs_dev.proofs.Going.{all_go}
use Rattle.avs_model.specs.GroupStates.{GroupState}
use Rattle.avs_model.specs.GroupStages.{GroupStage, after_stage, in_group}
use Rattle.avs_model.specs.GroupWork.{GroupSpot, StateDisk, VolumeDisk, ShadowDisk, BitmapDisk, OverDisk}
use Rattle.avs_sets.specs.Says.{BlockSays}
use Rattle.avs_sets.specs.Sets.{SetSeen, shadow_disk}
use Rattle.avs_sets.specs.Meaning.{GroupSeen, set_of, disk_at, group_by, meaning}
use Rattle.avs_sets.specs.Whole.{AreWhole, IsWhole, IsStep, IsInStep}
use Rattle.avs_sets.specs.Goes.{is_labelled, KeepsLabels, Goes, Commits}
use Rattle.avs_sets.proofs.Found.{forgotten, same_found, long, slot_same, set_same, whole_found}

-- what the write of the block makes of the state disk and of what it says there
module _ (g : GroupSeen) (block : BlockSays) {T E : Type 0} (r : Result T E) (state' : Seen) (says' memory' : BlockSays)
    (disk : GoesOn g.state r state') (ended : IsTold g.state → OnOk r (says' ≡ block)) (torn : IsTold g.state → OnErr r ((says' ≡ g.says) ⊎ (says' ≡ block)))
    (now : OnOk r (memory' ≡ block)) (unchanged : OnErr r (memory' ≡ g.memory)) (label : IsTold g.state → block_at state'.image 0 ≡ block_at g.state.image 0)
    (one : OnOk r (state'.written ≡ counted g.state.written 1)) (none : OnErr r (state'.written ≡ g.state.written)) where
  pub commits : Commits g block r (record g { state = state'; says = says'; memory = memory' })
  commits = record {
    rest = refl;
    disk = disk;
    label = label;
    counted = one;
    uncounted = none;
    now = now;
    unchanged = unchanged;
    held = λ w. ended w.state;
    whole = λ w new. record {
      state = disk.lasts.told w.state;
      disks = elim (either r (ended w.state) (torn w.state)) [
        | inl same ↦ subst (λ (b : BlockSays). AreWhole b g.volumes g.overs g.sets) (sym same) w.disks
        | inr is ↦ subst (λ (b : BlockSays). AreWhole b g.volumes g.overs g.sets) (sym is) new
      ];
    };
    done = λ stage w makes. on_ok_weaker r (λ is. ap (λ (b : BlockSays). group_by b g.volumes g.overs g.sets) is ∙ makes) (ended w.state);
    stopped = λ stage w makes. on_err_weaker r (λ which. elim which [
      | inl same ↦ inl (ap (λ (b : BlockSays). group_by b g.volumes g.overs g.sets) same)
      | inr is ↦ inr (inr (ap (λ (b : BlockSays). group_by b g.volumes g.overs g.sets) is ∙ makes))
    ]) (torn w.state);
  }

-- A commit goes by its stage, and with it the memory of sets may be turned to what is live then. Owed are that the group stands for the
-- stage by the new block, that it is whole by the new block, and that the memory is in step with it.
module _ (g : GroupSeen) (block : BlockSays) (stage : GroupStage) (S : List SetSeen) (turned : map forgotten S ≡ map forgotten g.sets)
    {T E : Type 0} (r : Result T E) (mid : GroupSeen) (cm : Commits g block r mid)
    (makes : IsWhole g → IsInStep g → group_by block g.volumes g.overs g.sets ≡ after_stage (meaning g) stage)
    (whole : IsWhole g → IsInStep g → AreWhole block g.volumes g.overs g.sets)
    (in_step : IsWhole g → IsInStep g → OnOk r ((k : ℕ) → k < length S → IsStep block (set_of S k))) where
  abbrev committed : GroupSeen
  committed = record g { state = mid.state; says = mid.says; memory = mid.memory }

  abbrev again : GroupSeen
  again = record g { state = mid.state; says = mid.says; memory = mid.memory; sets = S }

  spots : (spot : GroupSpot) → (spot ≡ StateDisk) ⊎ (spot ≢ StateDisk)
  spots StateDisk = inl refl
  spots (VolumeDisk v) = inr (λ e. apart e)
    where
      apart : VolumeDisk v ≡ StateDisk → ⊥
      apart e = cc
  spots (ShadowDisk v) = inr (λ e. apart e)
    where
      apart : ShadowDisk v ≡ StateDisk → ⊥
      apart e = cc
  spots (BitmapDisk v) = inr (λ e. apart e)
    where
      apart : BitmapDisk v ≡ StateDisk → ⊥
      apart e = cc
  spots (OverDisk v) = inr (λ e. apart e)
    where
      apart : OverDisk v ≡ StateDisk → ⊥
      apart e = cc

  elsewhere : (spot : GroupSpot) → spot ≢ StateDisk → disk_at again spot ≡ disk_at g spot
  elsewhere StateDisk ne = absurd (ne refl)
  elsewhere (VolumeDisk v) ne = refl
  elsewhere (ShadowDisk v) ne = ap (λ (s : SetSeen). shadow_disk s) (slot_same g.sets S turned v)
  elsewhere (BitmapDisk v) ne = ap (λ (s : SetSeen). s.bitmap) (slot_same g.sets S turned v)
  elsewhere (OverDisk v) ne = refl

  label : (spot : GroupSpot) → is_labelled spot ≡ true → IsTold (disk_at g spot) → block_at (disk_at again spot).image 0 ≡ block_at (disk_at g spot).image 0
  label spot is told = elim (spots spot) [
    | inl here ↦ subst (λ (x : GroupSpot). IsTold (disk_at g x) → block_at (disk_at again x).image 0 ≡ block_at (disk_at g x).image 0) (sym here) cm.label told
    | inr ne ↦ ap (λ (d : Seen). block_at d.image 0) (elsewhere spot ne)
  ]

  step_again : OnOk r ((k : ℕ) → k < length S → IsStep block (set_of S k)) → OnOk r (again.memory ≡ block) → OnOk r (again.says ≡ block) → OnOk r (IsInStep again)
  step_again = go r
    where
      go : (q : Result T E) → OnOk q ((k : ℕ) → k < length S → IsStep block (set_of S k)) → OnOk q (again.memory ≡ block) → OnOk q (again.says ≡ block) → OnOk q (IsInStep again)
      go (Result.Ok x) steps now held = record {
        block = now ∙ sym held;
        each = λ k lt. subst (λ (b : BlockSays). IsStep b (set_of S k)) (sym now) (steps k lt);
      }
      go (Result.Err e) steps now held = tt

  stands : meaning again ≡ meaning mid
  stands = same_found mid.says g.volumes g.overs S g.sets turned ∙ ap (λ (x : GroupSeen). meaning x) (sym cm.rest)

  pub commit_labels : KeepsLabels g again
  commit_labels = record { each = label }

  pub commit_turns : Goes g (stage ∷ []) r again
  commit_turns = record {
    stays = record { volumes = refl; overs = refl; sets = long g.sets S turned; each = λ k lt. set_same g.sets S turned k };
    disks = all_go (disk_at g) (disk_at again) StateDisk spots elsewhere r cm.disk;
    whole = λ w st.
        let now = subst (λ (x : GroupSeen). IsWhole x) cm.rest (cm.whole w (whole w st)) in
        record { state = now.state; disks = whole_found g.sets S turned mid.says g.volumes g.overs now.disks };
    step = λ w st. step_again (in_step w st) cm.now (cm.held w);
    done = λ w st. on_ok_weaker r (λ is. stands ∙ is) (cm.done stage w (makes w st));
    stopped = λ w st. on_err_weaker r (λ is. subst (λ (m : GroupState). StoppedIn in_group (meaning g) (stage ∷ []) m) (sym stands) is) (cm.stopped stage w (makes w st));
  }

-- where the memory of the sets is in step with the block as it is
pub commit_goes : (g : GroupSeen) (block : BlockSays) (stage : GroupStage) {T E : Type 0} (r : Result T E) (new : GroupSeen) (cm : Commits g block r new)
    → (IsWhole g → IsInStep g → group_by block g.volumes g.overs g.sets ≡ after_stage (meaning g) stage)
    → (IsWhole g → IsInStep g → AreWhole block g.volumes g.overs g.sets)
    → (IsWhole g → IsInStep g → (k : ℕ) → k < length g.sets → IsStep block (set_of g.sets k)) → Goes g (stage ∷ []) r new
commit_goes g block stage r new cm makes whole in_step = subst (λ (x : GroupSeen). Goes g (stage ∷ []) r x) (sym cm.rest)
    (commit_turns g block stage g.sets refl r new cm makes whole (λ w st. ok_exit r (in_step w st)))
