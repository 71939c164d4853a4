use Rattle.std.proofs.Common.{◌≡◌, ◌==◌, ℕ, max, false, List, map, Ok, Err, sym, subst, rules, arith}
use Rattle.std.specs.Vec.{with_items}
use Rattle.std.proofs.lemmas.List.{with_items_is}
use Rattle.avs_halves.specs.Changing.{ChangesSets}
use Rattle.avs_sender.specs.declared.tracked.Tracked.{Tracked}
use Rattle.avs_sender.specs.SenderView.{set_places}
use Rattle.avs_sender.specs.Held.{SenderHalf}
use Rattle.avs_sender.specs.Kept.{IsKept}
use Rattle.avs_sender.specs.Freeing.{AreSizedAs, FreesEach, freed_keys}
use Rattle.avs_sender.specs.Learning.{HasLearned, LearnsInPart, half_with}
use Rattle.avs_halves.proofs.Following.{changes_ok}
use Rattle.avs_sender.proofs.LearnedHalf.{has_learned, learns_in_part, learns_kept, stops_kept}
use Rattle.avs_sender.proofs.half.Half.learn.Goals as goal

pub invariant_of-self : goal.invariant_of-self
invariant_of-self g c =
    let h : SenderHalf = record { host = c.self.inside.host; sets = c.self.inside.sets; places = map set_places c.self.inside.tracked.items; land = g.D.Disk.seen c.self.inside.land; note = c.self.inside.note; session = c.self.inside.session; queue = c.self.inside.queue } in
    let items : (with_items c.self.inside.tracked c.free_all.new.tracked).items ≡ c.free_all.new.tracked = with_items_is c.self.inside.tracked c.free_all.new.tracked (search rules) in
    let sized = subst (λ (l : List Tracked). AreSizedAs (map set_places l) (map set_places c.free_all.new.tracked)) c.deref_mut.ensures.value c.in-Err.ensures.sized in
    subst (λ (l : List Tracked). IsKept (half_with h c.free_all.new.sets (map set_places l) c.left-self-inside.result c.advance.new.self) × (c.self.inside.writes ≡ c.advance.new.self.limits.writes)) (sym items)
    (stops_kept h c.self.inside.writes _ (Err c.in-Err.field-0) c.free_all.new.sets (map set_places c.free_all.new.tracked) c.left-self-inside.result c.advance.new.self c.self.invariant c.in-Err.ensures.changes sized c.left-self-inside.ensures c.advance.ensures.advances)

pub invariant_of-self-2 : goal.invariant_of-self-2
invariant_of-self-2 g c =
    let h : SenderHalf = record { host = c.self.inside.host; sets = c.self.inside.sets; places = map set_places c.self.inside.tracked.items; land = g.D.Disk.seen c.self.inside.land; note = c.self.inside.note; session = c.self.inside.session; queue = c.self.inside.queue } in
    let items : (with_items c.self.inside.tracked c.free_all.new.tracked).items ≡ c.free_all.new.tracked = with_items_is c.self.inside.tracked c.free_all.new.tracked (search rules) in
    let session = rw (← c.self.view_is) at c.requires.session in
    let given = rw (← c.self.view_is) at c.requires.given in
    let known : c.max-known.result ≡ max c.self.inside.session.known c.args.applied = first_of (search rules, grind arith) in
    let sized = subst (λ (l : List Tracked). AreSizedAs (map set_places l) (map set_places c.free_all.new.tracked)) c.deref_mut.ensures.value c.in_default.ensures.sized in
    let freed = subst (λ (k : ℕ). FreesEach (map set_places c.self.inside.tracked.items) k (map set_places c.free_all.new.tracked)) known (subst (λ (l : List Tracked). FreesEach (map set_places l) c.max-known.result (map set_places c.free_all.new.tracked)) c.deref_mut.ensures.value c.in_default.ensures.frees) in
    let changes = subst (λ (k : ℕ). ChangesSets (freed_keys (c.self.inside.session.mark == 0) (map set_places c.self.inside.tracked.items) k) false c.self.inside.sets (Ok c.in_default.field-0) c.free_all.new.sets) known
    (subst (λ (l : List Tracked). ChangesSets (freed_keys (c.self.inside.session.mark == 0) (map set_places l) c.max-known.result) false c.self.inside.sets (Ok c.in_default.field-0) c.free_all.new.sets) c.deref_mut.ensures.value c.in_default.ensures.changes) in
    let adv = rw known at c.advance-2.ensures.advances in
    subst (λ (l : List Tracked). IsKept (half_with h c.free_all.new.sets (map set_places l) c.ticked-self-inside.result c.advance-2.new.self) × (c.self.inside.writes ≡ c.advance-2.new.self.limits.writes)) (sym items)
    (learns_kept h c.args.applied c.self.inside.writes c.free_all.new.sets (map set_places c.free_all.new.tracked) c.ticked-self-inside.result c.advance-2.new.self c.self.invariant session given
    (changes_ok _ false c.self.inside.sets c.free_all.new.sets c.in_default.field-0 tt changes) freed sized c.ticked-self-inside.ensures adv)

pub returns-in-Err : goal.returns-in-Err
returns-in-Err g c =
    let h : SenderHalf = record { host = c.self.inside.host; sets = c.self.inside.sets; places = map set_places c.self.inside.tracked.items; land = g.D.Disk.seen c.self.inside.land; note = c.self.inside.note; session = c.self.inside.session; queue = c.self.inside.queue } in
    let items : (with_items c.self.inside.tracked c.free_all.new.tracked).items ≡ c.free_all.new.tracked = with_items_is c.self.inside.tracked c.free_all.new.tracked (search rules) in
    let session = rw (← c.self.view_is) at c.requires.session in
    let known : c.max-known.result ≡ max c.self.inside.session.known c.args.applied = first_of (search rules, grind arith) in
    let changes = subst (λ (k : ℕ). ChangesSets {T = Unit {0}} (freed_keys (c.self.inside.session.mark == 0) (map set_places c.self.inside.tracked.items) k) false c.self.inside.sets (Err c.in-Err.field-0) c.free_all.new.sets) known
    (subst (λ (l : List Tracked). ChangesSets {T = Unit {0}} (freed_keys (c.self.inside.session.mark == 0) (map set_places l) c.max-known.result) false c.self.inside.sets (Err c.in-Err.field-0) c.free_all.new.sets) c.deref_mut.ensures.value c.in-Err.ensures.changes) in
    rw (← c.self.view_is) (subst (λ (l : List Tracked). LearnsInPart h c.args.applied c.in-Err.field-0 (half_with h c.free_all.new.sets (map set_places l) c.left-self-inside.result c.advance.new.self)) (sym items)
    (learns_in_part h c.args.applied c.free_all.new.sets (map set_places c.free_all.new.tracked) c.left-self-inside.result c.advance.new.self c.in-Err.field-0 c.self.invariant.0 session changes c.left-self-inside.ensures c.advance.ensures.advances.limits))

pub returns : goal.returns
returns g c =
    let h : SenderHalf = record { host = c.self.inside.host; sets = c.self.inside.sets; places = map set_places c.self.inside.tracked.items; land = g.D.Disk.seen c.self.inside.land; note = c.self.inside.note; session = c.self.inside.session; queue = c.self.inside.queue } in
    let items : (with_items c.self.inside.tracked c.free_all.new.tracked).items ≡ c.free_all.new.tracked = with_items_is c.self.inside.tracked c.free_all.new.tracked (search rules) in
    let session = rw (← c.self.view_is) at c.requires.session in
    let given = rw (← c.self.view_is) at c.requires.given in
    let known : c.max-known.result ≡ max c.self.inside.session.known c.args.applied = first_of (search rules, grind arith) in
    let sized = subst (λ (l : List Tracked). AreSizedAs (map set_places l) (map set_places c.free_all.new.tracked)) c.deref_mut.ensures.value c.in_default.ensures.sized in
    let freed = subst (λ (k : ℕ). FreesEach (map set_places c.self.inside.tracked.items) k (map set_places c.free_all.new.tracked)) known (subst (λ (l : List Tracked). FreesEach (map set_places l) c.max-known.result (map set_places c.free_all.new.tracked)) c.deref_mut.ensures.value c.in_default.ensures.frees) in
    let changes = subst (λ (k : ℕ). ChangesSets (freed_keys (c.self.inside.session.mark == 0) (map set_places c.self.inside.tracked.items) k) false c.self.inside.sets (Ok c.in_default.field-0) c.free_all.new.sets) known
    (subst (λ (l : List Tracked). ChangesSets (freed_keys (c.self.inside.session.mark == 0) (map set_places l) c.max-known.result) false c.self.inside.sets (Ok c.in_default.field-0) c.free_all.new.sets) c.deref_mut.ensures.value c.in_default.ensures.changes) in
    let adv = rw known at c.advance-2.ensures.advances in
    rw (← c.self.view_is) (subst (λ (l : List Tracked). HasLearned h c.args.applied c.turns.result (half_with h c.free_all.new.sets (map set_places l) c.ticked-self-inside.result c.advance-2.new.self)) (sym items)
    (has_learned h c.args.applied c.free_all.new.sets (map set_places c.free_all.new.tracked) c.ticked-self-inside.result c.advance-2.new.self c.turns.result c.self.invariant.0 session given
    (changes_ok _ false c.self.inside.sets c.free_all.new.sets c.in_default.field-0 tt changes) freed sized c.ticked-self-inside.ensures adv c.turns.ensures))
