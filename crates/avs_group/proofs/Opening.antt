-- A new group.
use Rattle.std.proofs.Common.{ℕ, ◌<◌, [], ◌∙◌, sym, refl, ap, arith}
use Rattle.avs_dev.specs.Seen.{Seen}
use Rattle.avs_code.specs.declared.group_blocks.GroupBlock.{GroupBlock}
use Rattle.avs_sets.specs.Says.{BlockSays}
use Rattle.avs_sets.specs.Meaning.{group_by}
use Rattle.avs_state.specs.Saying.{says_of}
use Rattle.avs_state.specs.StateDisk.{StateSeen, Makes}
use Rattle.avs_group.specs.Group.{Group, IsKeptGroup}
use Rattle.avs_group.specs.Calls.{Opens}

none : (k : ℕ) → k < 0 → ⊥
none k lt = omega (arith, lt)

abbrev pub new_group : StateSeen → Group
new_group state = record { state = state; volumes = []; overs = []; sets = [] }

pub new_kept : (state : StateSeen) → IsKeptGroup (new_group state)
new_kept state = record {
  kept = record { few = omega arith; held = λ k lt. absurd (none k lt); distinct = λ j k lj. absurd (none j lj) };
  here = record { each = λ k lt. absurd (none k lt) };
  slots = record {
    owned = λ over. record { ends = λ j lt. absurd (none j lt); owned = λ j lt. absurd (none j lt) };
    served = λ k lt. absurd (none k lt);
  };
  count = omega arith;
}

pub opens : (disk : Seen) (state : StateSeen) → Makes disk state → Opens disk (new_group state)
opens disk state made = record {
  made = made;
  volumes = refl;
  overs = refl;
  sets = refl;
  means = λ told. ap (λ (b : BlockSays). group_by b [] [] []) (made.step told ∙ ap (λ (b : GroupBlock). says_of b) made.block);
  whole = λ told. record {
    state = (made.state told).told;
    disks = record {
      volumes_told = λ v. refl;
      overs_told = λ o. refl;
      each = λ k lt. absurd (none k lt);
      apart = λ j k lj. absurd (none j lj);
      slots_apart = λ j k lj. absurd (none j lj);
    };
  };
  step = λ told. record { block = sym (made.step told); each = λ k lt. absurd (none k lt) };
}
