-- Commands that are a commit alone.
use Rattle.std.proofs.Common.{◌≡◌, ◌≢◌, inl, inr, ℕ, ◌<◌, true, ◌&&◌, None, List, [], ◌∷◌, length, Result, Ok, Err, OnOk, OnErr, ◌∙◌, sym, refl, ap, subst}
use Rattle.std.proofs.lemmas.Bool.{cases_eq}
use Rattle.avs_seg.specs.Image.{block_at}
use Rattle.avs_dev.specs.Seen.{IsTold}
use Rattle.avs_code.specs.declared.group_blocks.GroupBlock.{GroupBlock}
use Rattle.avs_model.specs.ShadowSets.{is_exported}
use Rattle.avs_model.specs.GroupWork.{GroupSpot, StateDisk, VolumeDisk, ShadowDisk, BitmapDisk, OverDisk}
use Rattle.avs_model.specs.GroupStages.{GroupStage, PutNote, Commit, Stops}
use Rattle.avs_sets.specs.Says.{SlotSays, BlockSays}
use Rattle.avs_sets.specs.Sets.{SetSeen}
use Rattle.avs_sets.specs.Meaning.{set_of, disk_at, slot_of, is_enabled, standing_of}
use Rattle.avs_sets.specs.Whole.{is_away, IsHere}
use Rattle.avs_sets.specs.Goes.{KeepsLabels, Goes, Commits as GroupCommits, is_labelled}
use Rattle.avs_sets.proofs.Counted.{commit_counts}
use Rattle.avs_sets.proofs.Singles.{note_goes, abort_goes}
use Rattle.avs_state.specs.Saying.{says_of, said_of, SaysOne}
use Rattle.avs_state.specs.declared.slot_states.SlotState.{SlotState}
use Rattle.avs_state.specs.StateDisk.{StateSeen, Commits, next_block}
use Rattle.avs_state.proofs.Grouped.{commits}
use Rattle.avs_group.specs.Group.{Group, IsKeptGroup, group_of}
use Rattle.avs_group.specs.Calls.{DoesCommit, StopsCopies}

-- by two blocks a set is enabled and stands alike
pub record StandsAlike (a b : BlockSays) (s : SetSeen) : Type 0 where
  pub enabled : is_enabled b s ≡ is_enabled a s
  pub standing : standing_of b s ≡ standing_of a s

pub alike_same : (a : BlockSays) (s : SetSeen) → StandsAlike a a s
alike_same a s = record { enabled = refl; standing = refl }

here_alike : (a b : BlockSays) (s : SetSeen) → StandsAlike a b s → IsHere a s → IsHere b s
here_alike a b s same here = record { there = λ away. here.there (sym is ∙ away); settled = λ away. here.settled (sym is ∙ away) }
  where
    is : is_away b s ≡ is_away a s
    is = λ p. same.enabled p && is_exported (same.standing p)

module _ (old : Group) (inv : IsKeptGroup old) (state' : StateSeen) (alike : (k : ℕ) → k < length old.sets → StandsAlike (says_of old.state.block) (says_of state'.block) (set_of old.sets k)) where
  pub kept_alike : IsKeptGroup (record old { state = state' })
  kept_alike = record {
    kept = inv.kept;
    here = record { each = λ k lt. here_alike (says_of old.state.block) (says_of state'.block) (set_of old.sets k) (alike k lt) (inv.here.each k lt) };
    slots = record {
      owned = λ over. record {
        ends = (inv.slots.owned over).ends;
        owned = λ j lt live at. (inv.slots.owned over).owned j lt (sym (alike j lt).enabled ∙ live) at;
      };
      served = inv.slots.served;
    };
    count = inv.count;
  }

module _ (old : Group) (block : GroupBlock) (state' : StateSeen) {T E : Type 0} (r : Result T E) (c : Commits old.state block r state') where
  pub committed : GroupCommits (group_of old) (says_of block) r (group_of (record old { state = state' }))
  committed = commits (group_of old) old.state state' block r c

  commit_labels : KeepsLabels (group_of old) (group_of (record old { state = state' }))
  commit_labels = record { each = go }
    where
      go : (spot : GroupSpot) → is_labelled spot ≡ true → IsTold (disk_at (group_of old) spot)
          → block_at (disk_at (group_of (record old { state = state' })) spot).image 0 ≡ block_at (disk_at (group_of old) spot).image 0
      go StateDisk is told = committed.label told
      go (VolumeDisk v) is told = refl
      go (ShadowDisk slot) is told = refl
      go (BitmapDisk slot) is told = refl
      go (OverDisk o) is told = refl

  pub commit_does : (stage : GroupStage) → Goes (group_of old) (stage ∷ []) r (group_of (record old { state = state' })) → DoesCommit old stage r (record old { state = state' })
  commit_does stage goes = record {
    does = record { goes = goes; labels = commit_labels; state = c.disk.state };
    rest = refl;
    counts = commit_counts (group_of old) (says_of block) r (group_of (record old { state = state' })) committed;
  }

  pub commit_kept : IsKeptGroup old → ((k : ℕ) → k < length old.sets → StandsAlike (says_of old.state.block) (says_of block) (set_of old.sets k)) → IsKeptGroup (record old { state = state' })
  commit_kept inv alike = kept_alike old inv state' (λ k lt. go r c.now c.unchanged k lt)
    where
      go : (r : Result T E) → OnOk r (state'.block ≡ block) → OnErr r (state'.block ≡ old.state.block) → (k : ℕ) → k < length old.sets
          → StandsAlike (says_of old.state.block) (says_of state'.block) (set_of old.sets k)
      go (Ok x) now unchanged k lt = subst (λ (b : GroupBlock). StandsAlike (says_of old.state.block) (says_of b) (set_of old.sets k)) (sym now) (alike k lt)
      go (Err e) now unchanged k lt = subst (λ (b : GroupBlock). StandsAlike (says_of old.state.block) (says_of b) (set_of old.sets k)) (sym unchanged) (alike_same (says_of old.state.block) (set_of old.sets k))

-- ---- the note

module _ (old : Group) (inv : IsKeptGroup old) (note : List ℕ) (block : GroupBlock) (is : block ≡ record (next_block old.state.block) { note = note })
    (state' : StateSeen) {T E : Type 0} (r : Result T E) (c : Commits old.state block r state') where
  pub note_does : DoesCommit old (PutNote note) r (record old { state = state' })
  note_does = commit_does old block state' r c (PutNote note)
      (note_goes (group_of old) note (says_of block) (ap (λ (b : GroupBlock). says_of b) is) r (group_of (record old { state = state' })) (committed old block state' r c))

  pub note_kept : IsKeptGroup (record old { state = state' })
  note_kept = commit_kept old block state' r c inv (λ k lt. subst (λ (b : GroupBlock). StandsAlike (says_of old.state.block) (says_of b) (set_of old.sets k)) (sym is) (record { enabled = refl; standing = refl }))

-- ---- copying stops

module _ (old : Group) (inv : IsKeptGroup old) (k : ℕ) (lt : k < length old.sets) (live : is_enabled (says_of old.state.block) (set_of old.sets k) ≡ true)
    (state : SlotState) (said : slot_of (says_of old.state.block) (set_of old.sets k) ≡ said_of state) (block : GroupBlock)
    (says : SaysOne (says_of (next_block old.state.block)) (set_of old.sets k).slot (said_of (record state { stopped = true })) (says_of block))
    (state' : StateSeen) {T E : Type 0} (r : Result T E) (c : Commits old.state block r state') where
  stopped : slot_of (says_of block) (set_of old.sets k) ≡ record (slot_of (says_of old.state.block) (set_of old.sets k)) { stopped = true }
  stopped = says.slot ∙ ap (λ (x : SlotSays). record x { stopped = true }) (sym said)

  others : (j : ℕ) → j < length old.sets → j ≢ k → slot_of (says_of block) (set_of old.sets j) ≡ slot_of (says_of old.state.block) (set_of old.sets j)
  others j lj ne = says.others (set_of old.sets j).slot (λ e. ne (inv.kept.distinct j k lj lt e))

  pub stop_does : StopsCopies old (set_of old.sets k).slot r (record old { state = state' })
  stop_does = commit_does old block state' r c (Commit (((set_of old.sets k).slot, Stops) ∷ []) None)
      (abort_goes (group_of old) inv.kept k lt (says_of block) r (group_of (record old { state = state' })) (committed old block state' r c)
      (record { note = says.note; sequence = says.sequence }) (record { each = others }) (record { live = live; slot = stopped }))

  pub stop_kept : IsKeptGroup (record old { state = state' })
  stop_kept = commit_kept old block state' r c inv (λ j lj. elim (cases_eq j k) [
    | inl same ↦ subst (λ (n : ℕ). StandsAlike (says_of old.state.block) (says_of block) (set_of old.sets n)) (sym same)
        (record { enabled = ap (λ (x : SlotSays). x.enabled) stopped; standing = ap (λ (x : SlotSays). x.standing) stopped })
    | inr ne ↦ record { enabled = ap (λ (x : SlotSays). x.enabled) (others j lj ne); standing = ap (λ (x : SlotSays). x.standing) (others j lj ne) }
  ])
