use Rattle.avs_code.specs.Bytes.{u32_bytes}
use Rattle.avs_code.proofs.Numbers.{written_part}
use Rattle.avs_code.proofs.bytes.put_u32.Goals as goal

pub returns-clause-after : goal.returns-clause-after
unfolding u32_bytes
returns-clause-after c = written_part c.args.out.now c.write_u32.new.buf (u32_bytes c.args.value) c.args.at 4 c.write_u32.ensures
