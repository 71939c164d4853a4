use Rattle.std.proofs.Common.{◌≡◌, Ok, Err, sym, subst}
use Rattle.std.specs.Prelude.{Result}
use Rattle.avs_model.specs.declared.event.Host.TheVariants.{P}
use Rattle.avs_model.specs.declared.event.Event.TheVariants.{Read}
use Rattle.avs_model.specs.Good.{Step}
use Rattle.avs_model.specs.declared.answer.Answer.{Answer}
use Rattle.avs_world.specs.declared.ranges.ReadStop.{ReadStop}
use Rattle.avs_world.specs.declared.ranges.ReadStop.TheVariants.{Failed, NoMemory}
use Rattle.avs_world.specs.Views.{view_of}
use Rattle.avs_world.proofs.Standing.{refused_step}
use Rattle.avs_world.proofs.RangeSteps.{read_done, read_stopped}
use Rattle.avs_world.proofs.Recovering.{rose_apart}
use Rattle.avs_world.proofs.world.World.read.Goals as goal

-- memory was not wanting
done_else : {T : Type 0} (x : T) → ◌≡◌ {A = Result T ReadStop} (Ok x) (Err NoMemory) → ⊥
done_else x same = absurd (cc)

failed_else : {T : Type 0} (stop : ReadStop) → stop ≡ Failed → ◌≡◌ {A = Result T ReadStop} (Err stop) (Err NoMemory) → ⊥
failed_else stop is same = absurd (cc)

pub returns-in-Err-clause-steps : goal.returns-in-Err-clause-steps
returns-in-Err-clause-steps g c steady s stands =
    refused_step g.D.Disk.seen steady c.args.self.now s (Read P c.args.name.now c.args.at c.args.len) c.in-Err.why stands (c.in-Err.ensures.refused steady s stands)

pub returns-in-Ok-read_runs-clause-steps : goal.returns-in-Ok-read_runs-clause-steps
returns-in-Ok-read_runs-clause-steps g c steady s stands =
    let reads = c.in-Ok-read_runs.ensures.reads (done_else c.in-Ok-read_runs.field-0) in
    read_done g.D.Disk.seen steady c.args.self.now s stands c.in-Ok.ensures.up _ c.in-Ok.target c.args.name.now c.args.at c.args.len reads.out c.in-Ok-read_runs.field-0 c.read_runs.new.runs
    (c.in-Ok.ensures.passes steady s stands) c.in-Ok.ensures.of reads.reads c.in-Ok-read_runs.ensures.up c.in-Ok-read_runs.ensures.stopped reads.long reads.are

pub returns-in-Err-Failed-clause-steps : goal.returns-in-Err-Failed-clause-steps
returns-in-Err-Failed-clause-steps g c steady s stands =
    let seen = g.D.Disk.seen in
    let reads = c.in-Err-Failed.ensures.reads (failed_else c.in-Err-Failed.field-0 c.in-Err-Failed.field-0-is) in
    let falls = read_stopped seen steady c.args.self.now s stands c.in-Ok.ensures.up c.read_runs.new.self c.stop.new.self c.in-Ok.target c.args.name.now c.args.at c.args.len reads.out c.in-Err-Failed.field-0
    (c.in-Ok.ensures.passes steady s stands) reads.reads c.stop.ensures.apart c.stop.ensures.same c.stop.ensures.up c.stop.ensures.stopped in
    (falls.0, subst (λ (answer : Answer). Step steady s (Read P c.args.name.now c.args.at c.args.len) answer falls.0) (sym c.stop.ensures.told) falls.1, falls.2)

pub returns-in-Err-Failed-clause-cause : goal.returns-in-Err-Failed-clause-cause
returns-in-Err-Failed-clause-cause g c =
    let seen = g.D.Disk.seen in
    let stop = c.stop.ensures in
    let reads = c.in-Err-Failed.ensures.reads (failed_else c.in-Err-Failed.field-0 c.in-Err-Failed.field-0-is) in
    rose_apart (view_of seen c.args.self.now) (view_of seen c.read_runs.new.self) (view_of seen c.stop.new.self) c.stop.result stop.same stop.apart stop.told reads.reads.cause
