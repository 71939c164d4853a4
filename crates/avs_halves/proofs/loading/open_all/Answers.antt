use Rattle.std.proofs.Common.{◌≡◌, List, [], ◌∷◌, ◌++◌, map, ◌∙◌, ap, reverse, arith}
use Rattle.std.proofs.lemmas.List.{map_push}
use Rattle.std.proofs.lemmas.List.Elements.{All-same, All-push}
use Rattle.avs_sync.specs.Parts.{mirror_set}
use Rattle.avs_halves.specs.SetBits.{SetBits, part_of}
use Rattle.avs_halves.specs.MirrorView.{set_bits}
use Rattle.avs_halves.specs.Loading.{HasVolume, OpensSet}
use Rattle.avs_halves.proofs.Loaded.{all_popped, whole_step, stops_at, opened_self}
use Rattle.avs_halves.proofs.loading.open_all.Goals as goal

pub open-requires : goal.open-requires
open-requires g c =
    (all_popped (mirror_set g.D.Disk.seen) c.loop-part.parts.items c.pop.new.self.items c.in-Some.part c.in-Some.ensures.items (HasVolume (g.B.Below.seen c.args.below.now).sizes) c.loop-part.invariant.volumes).1

pub loop-part-preserved : goal.loop-part-preserved
loop-part-preserved g c =
    let sizes = (g.B.Below.seen c.args.below.now).sizes in
    let F = mirror_set g.D.Disk.seen in
    let front = map set_bits c.loop-part.sets.items in
    let s : SetBits = set_bits c.in-Ok.set in
    let pushed : map set_bits c.push_reserved.new.self.items ≡ front ++ s ∷ [] = ap (λ l. map set_bits l) c.push_reserved.ensures.items ∙ map_push set_bits c.loop-part.sets.items c.in-Ok.set in
    let opens = c.in-Ok.ensures.opens in
    record {
      room = omega (arith, c.loop-part.invariant.room, c.in-Some.ensures.cases, c.pop.ensures.capacity, c.push_reserved.ensures.len, c.push_reserved.ensures.capacity);
      place = omega (arith, c.loop-part.invariant.place, c.in-Some.ensures.cases, c.pop.ensures.capacity, c.push_reserved.ensures.len, c.push_reserved.ensures.capacity);
      whole = ap (λ (l : List SetBits). map part_of l ++ reverse (map F c.pop.new.self.items)) pushed ∙ whole_step F c.loop-part.parts.items c.pop.new.self.items c.in-Some.part c.in-Some.ensures.items front s opens.as_found ∙ c.loop-part.invariant.whole;
      volumes = (all_popped F c.loop-part.parts.items c.pop.new.self.items c.in-Some.part c.in-Some.ensures.items (HasVolume sizes) c.loop-part.invariant.volumes).0;
      opened = All-same (λ (t : SetBits). OpensSet sizes (part_of t) t) (map set_bits c.push_reserved.new.self.items) (front ++ s ∷ []) pushed (All-push (λ (t : SetBits). OpensSet sizes (part_of t) t) front s c.loop-part.invariant.opened (opened_self sizes (F c.in-Some.part) s opens));
    }

pub returns-in-Err-clause-refused : goal.returns-in-Err-clause-refused
returns-in-Err-clause-refused g c =
    let sizes = (g.B.Below.seen c.args.below.now).sizes in
    let F = mirror_set g.D.Disk.seen in
    let front = map set_bits c.loop-part.sets.items in
    let left = map F c.push_reserved-in-Err.new.self.items in
    let are : left ≡ map F c.pop.new.self.items ++ F c.in-Err.field-0.parts ∷ [] = ap (λ l. map F l) c.push_reserved-in-Err.ensures.items ∙ map_push F c.pop.new.self.items c.in-Err.field-0.parts in
    stops_at F c.loop-part.parts.items c.pop.new.self.items c.in-Some.part c.in-Some.ensures.items front c.args.parts.now.items c.loop-part.invariant.whole sizes c.in-Err.field-0.why (F c.in-Err.field-0.parts) c.loop-part.invariant.opened c.in-Err.ensures.refused left are
