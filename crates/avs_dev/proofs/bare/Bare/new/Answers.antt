use Rattle.std.proofs.Common.{◌≡◌, ℕ, List, [], length, map, ap, subst, sym, rules}
use Rattle.avs_dev.specs.Bare.{Opens}
use Rattle.avs_dev.proofs.BareCalls.{Opens-read}
use Rattle.avs_dev.proofs.bare.Bare.new.Goals as goal

pub returns-in-Ok-clause-opens : goal.returns-in-Ok-clause-opens
returns-in-Ok-clause-opens g c =
    let seen = g.D.Disk.seen in
    let len : length c.read.new.out ≡ 512 = search rules in
    let none : map seen c.new.result.items ≡ [] = ap (λ l. map seen l) c.new.ensures.items in
    subst (λ (note : List ℕ). Opens (seen c.args.state) (record { state = seen c.read.new.self; volumes = map seen c.new.result.items; note = note })) (sym c.note_in.ensures)
    (Opens-read (seen c.args.state) c.read.new.out c.in-Ok.field-0 (seen c.read.new.self) len c.in-Ok.ensures (map seen c.new.result.items) c.requires none)
