-- A commit of the state disk is one of its group: what the disk says is what the group's sets and volumes stand by.
use Rattle.std.proofs.Common.{Result, ap}
use Rattle.std.proofs.lemmas.Result.{on_ok_weaker, on_err_weaker}
use Rattle.avs_code.specs.declared.group_blocks.GroupBlock.{GroupBlock}
use Rattle.avs_sets.specs.Meaning.{GroupSeen}
use Rattle.avs_sets.specs.Goes.{Commits as GroupCommits}
use Rattle.avs_sets.proofs.Commits as group
use Rattle.avs_state.specs.Saying.{says_of, said_on}
use Rattle.avs_state.specs.StateDisk.{StateSeen, Commits}

-- the group over a state disk
abbrev pub with_state : GroupSeen → StateSeen → GroupSeen
with_state g s = record g { state = s.disk; says = said_on s.disk; memory = says_of s.block }

pub commits : (g : GroupSeen) (old new : StateSeen) (block : GroupBlock) {T E : Type 0} (r : Result T E) → Commits old block r new
    → GroupCommits (with_state g old) (says_of block) r (with_state g new)
commits g old new block r c = group.commits (with_state g old) (says_of block) r new.disk (said_on new.disk) (says_of new.block)
    c.disk.goes c.disk.done c.disk.stopped
    (on_ok_weaker r (λ is. ap (λ (b : GroupBlock). says_of b) is) c.now)
    (on_err_weaker r (λ is. ap (λ (b : GroupBlock). says_of b) is) c.unchanged)
    c.disk.label c.disk.counted c.disk.uncounted
