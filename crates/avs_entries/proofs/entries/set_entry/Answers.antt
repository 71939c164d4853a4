use Rattle.std.proofs.Common.{rules, ◌*◌}
use Rattle.avs_code.specs.Bytes.{u32_bytes}
use Rattle.avs_code.proofs.Numbers.{written_part}
use Rattle.avs_entries.proofs.EntryBytes.{written_now, written_others}
use Rattle.avs_entries.proofs.entries.set_entry.Goals as goal

pub returns-clause-now : goal.returns-clause-now
unfolding u32_bytes
returns-clause-now c = written_now c.args.bytes.now _ c.args.chunk c.args.entry (search rules) c.requires (written_part c.args.bytes.now c.write_u32.new.buf (u32_bytes c.args.entry) (4 * c.args.chunk) 4 c.write_u32.ensures)

pub returns-clause-others : goal.returns-clause-others
unfolding u32_bytes
returns-clause-others c = written_others c.args.bytes.now _ c.args.chunk c.args.entry (search rules) c.requires (written_part c.args.bytes.now c.write_u32.new.buf (u32_bytes c.args.entry) (4 * c.args.chunk) 4 c.write_u32.ensures)
