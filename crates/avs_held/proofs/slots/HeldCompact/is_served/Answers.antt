use Rattle.avs_compact.specs.CompactSet.{over_of}
use Rattle.avs_held.proofs.Slotted.{set_served, lacks_set}
use Rattle.avs_held.proofs.slots.HeldCompact.is_served.Goals as goal

pub returns-clause-served : goal.returns-clause-served
returns-clause-served g c = rw (← c.self.view_is) (λ yes. set_served c.self.inside.seat c.self.inside.compact (over_of c.args.over.now) c.keeps_form.ensures.form (c.is_served.ensures.served yes))

pub returns-clause-lacks : goal.returns-clause-lacks
returns-clause-lacks g c = rw (← c.self.view_is) (λ none. lacks_set c.self.inside.seat c.self.inside.compact (over_of c.args.over.now) c.keeps_form.ensures.form (c.is_served.ensures.lacks none))
