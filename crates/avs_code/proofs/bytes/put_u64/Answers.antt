use Rattle.avs_code.specs.Bytes.{u64_bytes}
use Rattle.avs_code.proofs.Numbers.{written_part}
use Rattle.avs_code.proofs.bytes.put_u64.Goals as goal

pub returns-clause-after : goal.returns-clause-after
unfolding u64_bytes
returns-clause-after c = written_part c.args.out.now c.write_u64.new.buf (u64_bytes c.args.value) c.args.at 8 c.write_u64.ensures
