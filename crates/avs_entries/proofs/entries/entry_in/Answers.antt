use Rattle.std.proofs.Common.{◌∙◌, ◌*◌}
use Rattle.avs_code.proofs.Numbers.{u32_at-reads}
use Rattle.avs_entries.proofs.EntryBytes.{entry_in_is}
use Rattle.avs_entries.proofs.entries.entry_in.Goals as goal

pub returns : goal.returns
returns c = c.from_be_bytes.ensures ∙ u32_at-reads c.args.bytes.now (4 * c.args.chunk) ∙ entry_in_is c.args.bytes.now c.args.chunk
