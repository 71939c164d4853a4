use Rattle.std.proofs.Common.{◌≡◌, ◌*◌, List, ℕ, length, take, inr, ◌∙◌, ap, rules}
use Rattle.std.proofs.lemmas.List.{with_items_is}
use Rattle.avs_seg.specs.Image.{blocks_of}
use Rattle.avs_land.proofs.land.Land.redo.Goals as goal

-- the bytes that were written are those that were read
pub returns-clause-rest : goal.returns-clause-rest
returns-clause-rest g c = rw (← c.self.view_is) (
    let h = c.self.inside.header in
    let same : c.deref.result.now ≡ c.read_entry.new.buffer = c.deref.ensures.value ∙ with_items_is c.self.inside.buffer c.read_entry.new.buffer (search rules) in
    let bytes : take (512 * h.len) c.deref.result.now ≡ take (512 * h.len) c.read_entry.new.buffer = ap (λ (l : List ℕ). take (512 * h.len) l) same in
    let read = c.in_ok-read_entry.ensures.reads in
    inr (record {
      bytes = take (512 * h.len) c.deref.result.now;
      landed = record {
        size = ap (λ (l : List ℕ). length l) bytes ∙ read.size;
        blocks = λ told. ap blocks_of bytes ∙ read.shows told;
      };
      once = c.write.ensures.wrote;
    }))
