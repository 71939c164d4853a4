use Rattle.std.proofs.Common.{◌≡◌, length, sym, subst}
use Rattle.avs_world.specs.Views.{StoreView, view_of, group_view, places_of}
use Rattle.avs_world.specs.Calls.{ReadsAt}
use Rattle.avs_world.proofs.Reading.{plain_range, reads_plain, reads_master, reads_shadow_ok, reads_shadow_err}
use Rattle.avs_world.proofs.world.World.read_at.Goals as goal

pub read-requires : goal.read-requires
read-requires g c = plain_range (view_of g.D.Disk.seen c.args.self.now) c.args.target c.args.at (length c.args.out.now) c.requires c.in-Plain.is

pub returns-in-Plain-clause-reads : goal.returns-in-Plain-clause-reads
returns-in-Plain-clause-reads g c =
    let seen = g.D.Disk.seen in
    let self = c.args.self.now in
    let old = view_of seen self in
    let places = places_of seen c.read.new.self in
    let same : view_of seen (record self { shelf = c.read.new.self }) ≡ record old { places = places } =
    λ i. record { names = c.read.ensures.names i; places = places; blocks = c.read.ensures.blocks i; group = group_view seen self.group } in
    subst (λ (s : StoreView). ReadsAt old c.args.target c.args.at c.read.new.out c.read.result s) (sym same)
    (reads_plain old places c.args.target c.args.at (length c.args.out.now) c.read.new.out c.read.result c.in-Plain.is c.requires c.read.ensures.reads)

pub returns-in-Ok-clause-reads : goal.returns-in-Ok-clause-reads
returns-in-Ok-clause-reads g c =
    reads_shadow_ok (view_of g.D.Disk.seen c.args.self.now) (group_view g.D.Disk.seen c.read_shadow.new.group) c.args.target c.args.at (length c.args.out.now) c.read_shadow.new.out c.in-Ok.field-0 tt c.in-Shadow.is c.requires
    c.in-Ok.ensures.reads

pub returns-in-Err-clause-reads : goal.returns-in-Err-clause-reads
returns-in-Err-clause-reads g c =
    reads_shadow_err (view_of g.D.Disk.seen c.args.self.now) (group_view g.D.Disk.seen c.read_shadow.new.group) c.args.target c.args.at (length c.args.out.now) c.read_shadow.new.out c.in-Err.field-0 (record {}) c.in-Shadow.is
    c.requires c.in-Err.ensures.reads

pub returns-in-Master-clause-reads : goal.returns-in-Master-clause-reads
returns-in-Master-clause-reads g c =
    reads_master (view_of g.D.Disk.seen c.args.self.now) (group_view g.D.Disk.seen c.read_master.new.group) c.args.target c.args.at (length c.args.out.now) c.read_master.new.out c.read_master.result c.in-Master.is c.requires
    c.read_master.ensures.reads
