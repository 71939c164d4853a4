use Rattle.avs_code.specs.Bytes.{u16_bytes}
use Rattle.avs_code.proofs.Numbers.{written_part}
use Rattle.avs_code.proofs.bytes.put_u16.Goals as goal

pub returns-clause-after : goal.returns-clause-after
unfolding u16_bytes
returns-clause-after c = written_part c.args.out.now c.write_u16.new.buf (u16_bytes c.args.value) c.args.at 2 c.write_u16.ensures
