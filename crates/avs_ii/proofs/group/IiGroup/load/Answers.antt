use Rattle.std.proofs.Common.{◌≡◌, List, [], not, Bool, map, sym, ap, subst, ◌∙◌}
use Rattle.avs_dev.specs.Seen.{Seen}
use Rattle.avs_ii.specs.Opened.{sets_of}
use Rattle.avs_ii.specs.SetDisks.{set_disks}
use Rattle.avs_ii.specs.Parts.{PartDisks, part_disks}
use Rattle.avs_ii.specs.Making.{Loads}
use Rattle.avs_ii.specs.Opening.{OpensOne, RefusesOne}
use Rattle.avs_ii.proofs.Making.{the_group}
use Rattle.avs_ii.proofs.Loading.{the_disks, IsRead, finish_refused, few_seen, few_back, nil_of, read_refused, odd_refused, disk_read, take_refused, loads_one, kept_one}
use Rattle.avs_ii.proofs.group.IiGroup.load.Goals as goal

pub returns-in-Err-clause-refused : goal.returns-in-Err-clause-refused
returns-in-Err-clause-refused g c =
    let seen = g.D.Disk.seen in
    let disks = set_disks seen in
    let st = seen c.args.parts.state in
    let st' = seen c.read_state.new.state in
    let vols = c.into_vec-volumes.result.items in
    let room = c.into_vec-room.result.items in
    let overs = c.into_vec-overs.result.items in
    let V = map seen vols in
    let S = map disks room in
    let O = map seen overs in
    let base : the_disks st V S O ≡ part_disks seen c.args.parts = λ i. record { state = st; volumes = c.into_vec-volumes.ensures i; sets = c.into_vec-room.ensures i; overs = c.into_vec-overs.ensures i } in
    finish_refused (the_disks st V S O) (part_disks seen c.args.parts) (the_disks st' V S O) (part_disks seen c.closed.result.parts) c.in-Err.why c.closed.result.why base c.closed.ensures.parts c.closed.ensures.why
    (read_refused st st' V S O c.read_state.ensures.rest c.read_state.ensures.later c.in-Err.why c.in-Err.ensures.refused)

pub returns-then-not-are_few-clause-refused : goal.returns-then-not-are_few-clause-refused
returns-then-not-are_few-clause-refused g c =
    let seen = g.D.Disk.seen in
    let disks = set_disks seen in
    let st = seen c.args.parts.state in
    let st' = seen c.read_state.new.state in
    let vols = c.into_vec-volumes.result.items in
    let room = c.into_vec-room.result.items in
    let overs = c.into_vec-overs.result.items in
    let V = map seen vols in
    let S = map disks room in
    let O = map seen overs in
    let base : the_disks st V S O ≡ part_disks seen c.args.parts = λ i. record { state = st; volumes = c.into_vec-volumes.ensures i; sets = c.into_vec-room.ensures i; overs = c.into_vec-overs.ensures i } in
    let read : IsRead st c.in-Ok.block st' = record { rest = c.read_state.ensures.rest; later = c.read_state.ensures.later; room = c.in-Ok.ensures.room; holds = c.in-Ok.ensures.holds; keeps = c.in-Ok.ensures.kept.0; fits = c.in-Ok.ensures.kept.1 } in
    let many = c.are_few.ensures.many (ap (λ (b : Bool). not b) c.if-not-are_few.true) in
    finish_refused (the_disks st V S O) (part_disks seen c.args.parts) (the_disks st' V S O) (part_disks seen c.closed-then-not-are_few.result.parts) _ c.closed-then-not-are_few.result.why base c.closed-then-not-are_few.ensures.parts c.closed-then-not-are_few.ensures.why
    (odd_refused st st' V S O c.read_state.ensures.rest c.read_state.ensures.later (disk_read st st' c.in-Ok.block read) (λ few. many (few_back seen disks c.deref.result.now vols c.deref-2.result.now room c.deref-3.result.now overs c.deref.ensures.value c.deref-2.ensures.value c.deref-3.ensures.value few)))

pub invariant_of-result : goal.invariant_of-result
invariant_of-result g c =
    let seen = g.D.Disk.seen in
    let disks = set_disks seen in
    let st = seen c.args.parts.state in
    let st' = seen c.read_state.new.state in
    let vols = c.into_vec-volumes.result.items in
    let room = c.into_vec-room.result.items in
    let overs = c.into_vec-overs.result.items in
    let V = map seen vols in
    let S = map disks room in
    let O = map seen overs in
    let base : the_disks st V S O ≡ part_disks seen c.args.parts = λ i. record { state = st; volumes = c.into_vec-volumes.ensures i; sets = c.into_vec-room.ensures i; overs = c.into_vec-overs.ensures i } in
    let few0 = c.are_few.ensures.few c.if-not-are_few.false in
    let few = few_seen seen disks c.deref.result.now vols c.deref-2.result.now room c.deref-3.result.now overs c.deref.ensures.value c.deref-2.ensures.value c.deref-3.ensures.value few0 in
    let nil : O ≡ [] = nil_of O few.none in
    let read : IsRead st c.in-Ok.block st' = record { rest = c.read_state.ensures.rest; later = c.read_state.ensures.later; room = c.in-Ok.ensures.room; holds = c.in-Ok.ensures.holds; keeps = c.in-Ok.ensures.kept.0; fits = c.in-Ok.ensures.kept.1 } in
    let opens = subst (λ (l : List g.row.D.Denot). OpensOne c.in-Ok.block.slots (map seen l) S (sets_of c.in-Ok-take_set.set)) c.deref-4.ensures.value c.in-Ok-take_set.ensures.opens in (
      kept_one st st' c.in-Ok.block V read few.count S (sets_of c.in-Ok-take_set.set) few.one opens,
      record { empty = c.in-Ok-take_set.ensures.empty; place = c.in-Ok-take_set.ensures.place; none = sym c.deref-3.ensures.len ∙ few0.none },
    )

pub returns-in-Ok-take_set-clause-loads : goal.returns-in-Ok-take_set-clause-loads
returns-in-Ok-take_set-clause-loads g c =
    let seen = g.D.Disk.seen in
    let disks = set_disks seen in
    let st = seen c.args.parts.state in
    let st' = seen c.read_state.new.state in
    let vols = c.into_vec-volumes.result.items in
    let room = c.into_vec-room.result.items in
    let overs = c.into_vec-overs.result.items in
    let V = map seen vols in
    let S = map disks room in
    let O = map seen overs in
    let base : the_disks st V S O ≡ part_disks seen c.args.parts = λ i. record { state = st; volumes = c.into_vec-volumes.ensures i; sets = c.into_vec-room.ensures i; overs = c.into_vec-overs.ensures i } in
    let few0 = c.are_few.ensures.few c.if-not-are_few.false in
    let few = few_seen seen disks c.deref.result.now vols c.deref-2.result.now room c.deref-3.result.now overs c.deref.ensures.value c.deref-2.ensures.value c.deref-3.ensures.value few0 in
    let nil : O ≡ [] = nil_of O few.none in
    let read : IsRead st c.in-Ok.block st' = record { rest = c.read_state.ensures.rest; later = c.read_state.ensures.later; room = c.in-Ok.ensures.room; holds = c.in-Ok.ensures.holds; keeps = c.in-Ok.ensures.kept.0; fits = c.in-Ok.ensures.kept.1 } in
    let opens = subst (λ (l : List g.row.D.Denot). OpensOne c.in-Ok.block.slots (map seen l) S (sets_of c.in-Ok-take_set.set)) c.deref-4.ensures.value c.in-Ok-take_set.ensures.opens in
    subst (λ (p : PartDisks). Loads p (the_group st' c.in-Ok.block V (sets_of c.in-Ok-take_set.set))) (sym (ap (λ (o : List Seen). the_disks st V S o) nil) ∙ base)
    (loads_one st st' c.in-Ok.block V read few.count S (sets_of c.in-Ok-take_set.set) few.one opens)

pub returns-in-Err-take_set-clause-refused : goal.returns-in-Err-take_set-clause-refused
returns-in-Err-take_set-clause-refused g c =
    let seen = g.D.Disk.seen in
    let disks = set_disks seen in
    let st = seen c.args.parts.state in
    let st' = seen c.read_state.new.state in
    let vols = c.into_vec-volumes.result.items in
    let room = c.into_vec-room.result.items in
    let overs = c.into_vec-overs.result.items in
    let V = map seen vols in
    let S = map disks room in
    let O = map seen overs in
    let base : the_disks st V S O ≡ part_disks seen c.args.parts = λ i. record { state = st; volumes = c.into_vec-volumes.ensures i; sets = c.into_vec-room.ensures i; overs = c.into_vec-overs.ensures i } in
    let few0 = c.are_few.ensures.few c.if-not-are_few.false in
    let few = few_seen seen disks c.deref.result.now vols c.deref-2.result.now room c.deref-3.result.now overs c.deref.ensures.value c.deref-2.ensures.value c.deref-3.ensures.value few0 in
    let nil : O ≡ [] = nil_of O few.none in
    let read : IsRead st c.in-Ok.block st' = record { rest = c.read_state.ensures.rest; later = c.read_state.ensures.later; room = c.in-Ok.ensures.room; holds = c.in-Ok.ensures.holds; keeps = c.in-Ok.ensures.kept.0; fits = c.in-Ok.ensures.kept.1 } in
    let left = map disks c.take_set.new.room.items in
    let refused = subst (λ (l : List g.row.D.Denot). RefusesOne c.in-Ok.block.slots (map seen l) S c.in-Err-take_set.why left) c.deref-4.ensures.value c.in-Err-take_set.ensures.refused in
    finish_refused (the_disks st V S []) (part_disks seen c.args.parts) (the_disks st' V left []) (part_disks seen c.closed-in-Err-take_set.result.parts) c.in-Err-take_set.why c.closed-in-Err-take_set.result.why
    (sym (ap (λ (o : List Seen). the_disks st V S o) nil) ∙ base)
    (c.closed-in-Err-take_set.ensures.parts ∙ ap (λ (o : List Seen). the_disks st' V left o) nil)
    c.closed-in-Err-take_set.ensures.why
    (take_refused st st' c.in-Ok.block V read few.count S left c.in-Err-take_set.why few.one refused)
