use Rattle.std.proofs.Common.{◌≡◌, ◌∙◌, [], ◌∷◌, ◌++◌, sym, ap, subst, map}
use Rattle.std.specs.List.{flat_map}
use Rattle.avs_model.specs.Recovery.{group_line, set_lines}
use Rattle.avs_model.specs.declared.event.Host.TheVariants.{P}
use Rattle.avs_model.specs.declared.answer.Answer.TheVariants.{Up}
use Rattle.avs_ii.specs.Meaning.{meaning}
use Rattle.avs_world.specs.Views.{names_of, places_of, group_view, GroupView}
use Rattle.avs_world.specs.Holds.{HoldsBy}
use Rattle.avs_world.proofs.Recovering.{open_lines, no_groups, copied}
use Rattle.avs_world.proofs.world.World.bring_up.Goals as goal
use Rattle.avs_world.proofs.world.World.bring_up.Goals.{in-Open+in_ok-copy+in_ok-push+in_ok-copy-2+in_ok-push-2, in_default}

pub returns-clause-told : goal.returns-clause-told
returns-clause-told g c steady s holds phase =
    let self = c.args.self.now in
    let seen = g.D.Disk.seen in
    let names = names_of self.shelf in
    let places = places_of seen self.shelf in
    elim c.match-self.branch [
      | in-Open+in_ok-copy+in_ok-push+in_ok-copy-2+in_ok-push-2 w ↦
          let set = w.in-Open.set in
          let held = w.in-Open.group in
          let by = subst (λ (v : GroupView). HoldsBy steady names places v s.p.volumes s.p.groups) (ap (group_view seen) w.in-Open.is) holds.by in
          let lines = open_lines steady names places set held s.p.volumes s.p.groups by in
          let left = copied w.to_copy.result (meaning held).sets set.slot (w.to_copy.ensures.named by.0.sound) in
          let groups : c.match-self.groups ≡ record { group = set.name; session = 0; place = 0 } ∷ [] =
          w.groups-is ∙ w.in_ok-push.ensures.pushed ∙ (λ i. c.new-groups.ensures i ++ record { group = w.in_ok-copy.ensures i; session = 0; place = 0 } ∷ []) in
          let sets : c.match-self.sets ≡ _ =
          w.sets-is ∙ w.in_ok-push-2.ensures.pushed ∙ (λ i. c.new-sets.ensures i ++ record { set = w.in_ok-copy-2.ensures i; left = (w.unwrap_or.ensures ∙ left) i } ∷ []) in
          (λ i. Up (record { host = P; second = c.args.second; groups = (groups ∙ sym lines.0) i; sets = (sets ∙ sym lines.1) i }))
      | in_default w ↦
          let none = no_groups seen steady names places self.group s.p.volumes s.p.groups holds.by phase w.in_default.not-Open in
          let groups = w.groups-is ∙ c.new-groups.ensures ∙ sym (ap (map group_line) none) in
          let sets = w.sets-is ∙ c.new-sets.ensures ∙ sym (ap (flat_map set_lines) none) in
          (λ i. Up (record { host = P; second = c.args.second; groups = groups i; sets = sets i }))
    ]
