use Rattle.std.proofs.Common.{◌≡◌, length, sym, subst}
use Rattle.avs_world.specs.Views.{StoreView, view_of, group_view, places_of}
use Rattle.avs_world.specs.Calls.{WritesOpen}
use Rattle.avs_world.proofs.Reading.{plain_range}
use Rattle.avs_world.proofs.Writing.{writes_plain}
use Rattle.avs_world.proofs.WritingSets.{writes_master, writes_shadow_ok, writes_shadow_err}
use Rattle.avs_world.proofs.world.World.write_open.Goals as goal

pub write-requires : goal.write-requires
write-requires g c = plain_range (view_of g.D.Disk.seen c.args.self.now) c.args.target c.args.at (length c.args.bytes.now) c.requires c.in-Plain.is

pub returns-in-Plain-clause-writes : goal.returns-in-Plain-clause-writes
returns-in-Plain-clause-writes g c =
    let seen = g.D.Disk.seen in
    let self = c.args.self.now in
    let old = view_of seen self in
    let places = places_of seen c.write.new.self in
    let same : view_of seen (record self { shelf = c.write.new.self }) ≡ record old { places = places } =
    λ i. record { names = c.write.ensures.names i; places = places; blocks = c.write.ensures.blocks i; group = group_view seen self.group } in
    subst (λ (s : StoreView). WritesOpen old c.args.target c.args.at c.args.bytes.now c.write.result s) (sym same)
    (writes_plain old places c.args.target c.args.at (length c.args.bytes.now) c.args.bytes.now c.write.result c.in-Plain.is c.requires c.write.ensures.writes)

pub returns-in-Ok-clause-writes : goal.returns-in-Ok-clause-writes
returns-in-Ok-clause-writes g c =
    writes_shadow_ok (view_of g.D.Disk.seen c.args.self.now) (group_view g.D.Disk.seen c.write_shadow.new.group) c.args.target c.args.at (length c.args.bytes.now) c.args.bytes.now c.in-Ok.field-0 tt c.in-Shadow.is c.requires
    c.in-Ok.ensures

pub returns-in-Err-clause-writes : goal.returns-in-Err-clause-writes
returns-in-Err-clause-writes g c =
    writes_shadow_err (view_of g.D.Disk.seen c.args.self.now) (group_view g.D.Disk.seen c.write_shadow.new.group) c.args.target c.args.at (length c.args.bytes.now) c.args.bytes.now c.in-Err.field-0 (record {}) c.in-Shadow.is
    c.requires c.in-Err.ensures

pub returns-in-Master-clause-writes : goal.returns-in-Master-clause-writes
returns-in-Master-clause-writes g c =
    writes_master (view_of g.D.Disk.seen c.args.self.now) (group_view g.D.Disk.seen c.write_master.new.group) c.args.target c.args.at (length c.args.bytes.now) c.args.bytes.now c.write_master.result c.in-Master.is c.requires
    c.write_master.ensures
