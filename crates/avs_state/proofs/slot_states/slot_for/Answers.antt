use Rattle.std.proofs.Common.{◌∙◌, ap}
use Rattle.avs_state.specs.Saying.{standing_flag}
use Rattle.avs_state.specs.declared.slot_states.Standing.{Standing}
use Rattle.avs_state.proofs.SlotStates.{says_online, says_offline, says_exported}
use Rattle.avs_state.proofs.slot_states.slot_for.Goals as goal

pub returns-in-Online-clause-says : goal.returns-in-Online-clause-says
returns-in-Online-clause-says c =
    says_online c.args.state c.flag.result c.flag-2.result c.standing_flag.result c.kind_number.result c.flag.ensures.is c.flag-2.ensures.is c.kind_number.ensures.by
    (c.standing_flag.ensures.is ∙ ap (λ (s : Standing). standing_flag s) c.in-Online.is) c.in-Online.is

pub returns-in-Offline-clause-says : goal.returns-in-Offline-clause-says
returns-in-Offline-clause-says c =
    says_offline c.args.state c.flag.result c.flag-2.result c.standing_flag.result c.kind_number.result c.flag.ensures.is c.flag-2.ensures.is c.kind_number.ensures.by c.in-Offline.need c.in-Offline.slots
    (c.standing_flag.ensures.is ∙ ap (λ (s : Standing). standing_flag s) c.in-Offline.is) c.in-Offline.is

pub returns-in-Exported-clause-says : goal.returns-in-Exported-clause-says
returns-in-Exported-clause-says c =
    says_exported c.args.state c.flag.result c.flag-2.result c.standing_flag.result c.kind_number.result c.flag.ensures.is c.flag-2.ensures.is c.kind_number.ensures.by c.in-Exported.stamp
    (c.standing_flag.ensures.is ∙ ap (λ (s : Standing). standing_flag s) c.in-Exported.is) c.in-Exported.is
