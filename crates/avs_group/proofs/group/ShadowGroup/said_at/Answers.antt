use Rattle.std.proofs.Common.{ℕ, ◌<◌, length, map, subst, sym, ◌∙◌, ap}
use Rattle.avs_sets.specs.Sets.{SetSeen}
use Rattle.avs_held.specs.Held.{seen_of}
use Rattle.avs_group.proofs.ByName.{set_is, place_lt}
use Rattle.avs_group.proofs.group.ShadowGroup.said_at.Goals as goal

pub said-requires : goal.said-requires
said-requires g c =
    let i = c.self.inside in
    let lt : c.args.place < length (map seen_of i.sets.items) = rw (← c.self.view_is) at c.requires in
    let is = set_is i.sets.items c.args.place c.index.result.now (place_lt i.sets.items c.args.place lt) c.index.ensures in
    subst (λ (n : ℕ). n < 16) (sym (c.seat.ensures.slot ∙ ap (λ (s : SetSeen). s.slot) (sym is))) (c.self.invariant.kept.held c.args.place lt).slot
