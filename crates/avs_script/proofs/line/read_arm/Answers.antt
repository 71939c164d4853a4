use Rattle.std.proofs.Common.{◌≡◌, refl, rules}
use Rattle.std.specs.Option.{option_map}
use Rattle.avs_model.specs.Names.{disk_named}
use Rattle.avs_model.specs.Script.{arm_event}
use Rattle.avs_model.specs.declared.event.Event.TheVariants.{Arm}
use Rattle.avs_script.proofs.Wanting.{bad-disk}
use Rattle.avs_script.proofs.line.read_arm.Goals as goal

pub returns-in-Err-clause-bad : goal.returns-in-Err-clause-bad
returns-in-Err-clause-bad c =
    let words = c.in-Some-Some-Some-Some-Some-None in
    let read = c.in-Some-Some-Some-Some in
    let same : arm_event c.args.words.now ≡ option_map (λ d. Arm read.host d read.skip read.first read.count) (disk_named words.disk.now) = search rules in
    bad-disk c.in-Err.why c.read_disk.result (disk_named words.disk.now) (λ d. Arm read.host d read.skip read.first read.count) (arm_event c.args.words.now) _ c.in-Err.is c.read_disk.ensures.bad same refl
