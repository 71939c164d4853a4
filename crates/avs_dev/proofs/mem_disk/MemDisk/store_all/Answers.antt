use Rattle.std.proofs.Common.{rules, ◌≡◌, List, ℕ, None, ap, sym, ◌∙◌}
use Rattle.std.specs.Vec.{with_items}
use Rattle.std.proofs.lemmas.List.{with_items_is}
use Rattle.avs_seg.specs.Image.{Image, put, blocks_of}
use Rattle.avs_seg.proofs.Bytes.{length-blocks_of}
use Rattle.avs_dev.specs.Memory.{state_of, stored, counted}
use Rattle.avs_dev.proofs.mem_disk.MemDisk.store_all.Goals as goal

pub returns-clause-after : goal.returns-clause-after
returns-clause-after c =
    let blocks = blocks_of c.args.bytes.now in
    let items : (with_items c.args.self.now.bytes c.store.new.bytes).items ≡ c.store.new.bytes = with_items_is c.args.self.now.bytes c.store.new.bytes (search rules) in
    let image = ap (λ (l : List ℕ). blocks_of l) items ∙ c.store.ensures ∙ ap (λ (l : List ℕ). put (blocks_of l) c.args.at blocks) c.deref_mut.ensures.value in
    let count = c.saturating_add-self.ensures ∙ ap (λ (n : ℕ). counted c.args.self.now.written n) (sym (length-blocks_of c.args.bytes.now)) in
    ap (λ (i : Image). record (state_of c.args.self.now) { image = i; written = c.saturating_add-self.result }) image
    ∙ ap (λ (n : ℕ). record (stored None (state_of c.args.self.now) c.args.at blocks) { written = n }) count
