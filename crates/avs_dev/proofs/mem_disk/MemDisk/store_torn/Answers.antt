use Rattle.std.proofs.Common.{rules, ◌≡◌, ◌+◌, ◌*◌, ◌/◌, List, ℕ, length, Some, ap, sym, refl, ◌∙◌, arith}
use Rattle.std.specs.List.{between}
use Rattle.std.specs.Vec.{with_items}
use Rattle.std.proofs.lemmas.List.{with_items_is}
use Rattle.avs_seg.specs.Image.{Image, put, range, blocks_of}
use Rattle.avs_seg.proofs.Bytes.{length-blocks_of, blocks_of-between}
use Rattle.avs_seg.proofs.Kept.{mix-range_with_len}
use Rattle.avs_dev.specs.Memory.{state_of, stored, torn_image}
use Rattle.avs_dev.proofs.mem_disk.MemDisk.store_torn.Goals as goal

pub returns-clause-after : goal.returns-clause-after
returns-clause-after c =
    let bytes = c.args.bytes.now in
    let blocks = blocks_of bytes in
    let old = c.args.self.now.bytes.items in
    let from = c.min-from.result in
    let count = c.min-count.result in
    let part = between (512 * from) (512 * (from + count)) bytes in
    let whole : length blocks ≡ length bytes / 512 = length-blocks_of bytes in
    let blocks_of_part : blocks_of part ≡ range blocks from count = blocks_of-between bytes from count (512 * from) (512 * (from + count)) refl refl (omega arith) in
    let torn : blocks_of c.store.new.bytes ≡ torn_image c.args.tear (blocks_of old) c.args.at blocks =
    c.store.ensures
    ∙ ap (λ (l : List ℕ). put (blocks_of l) (c.args.at + from) (blocks_of part)) c.deref_mut.ensures.value
    ∙ ap (λ (l : Image). put (blocks_of old) (c.args.at + from) l) blocks_of_part
    ∙ sym (mix-range_with_len (blocks_of old) c.args.at blocks c.args.tear.from c.args.tear.count from count (omega arith) (omega arith)) in
    let items : (with_items c.args.self.now.bytes c.store.new.bytes).items ≡ c.store.new.bytes = with_items_is c.args.self.now.bytes c.store.new.bytes (search rules) in
    let image = ap (λ (l : List ℕ). blocks_of l) items ∙ torn in
    ap (λ (i : Image). record (state_of c.args.self.now) { image = i; faults = c.saturating_add-self.result }) image
    ∙ ap (λ (n : ℕ). record (stored (Some c.args.tear) (state_of c.args.self.now) c.args.at blocks) { faults = n }) c.saturating_add-self.ensures
