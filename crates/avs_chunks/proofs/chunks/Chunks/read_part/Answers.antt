use Rattle.std.proofs.Common.{rules, ◌≡◌, ◌/◌, ℕ, List, length, eqb, ap, sym, subst, ◌∙◌, arith}
use Rattle.std.specs.Option.{option_map}
use Rattle.avs_chunks.specs.States.{state_in}
use Rattle.avs_chunks.specs.ChunkSet.{ChunkSet, IsOnePlace}
use Rattle.avs_chunks.proofs.Readings.{reads_one}
use Rattle.avs_chunks.proofs.chunks.Chunks.read_part.Goals as goal

pub returns-clause-reads : goal.returns-clause-reads
returns-clause-reads g c =
    let blocks = ap (λ (s : ChunkSet). s.blocks) c.self.view_is in
    let count : length c.read_one.new.out / 512 ≡ length c.args.out.now / 512 = ap (λ (n : ℕ). n / 512) c.read_one.ensures.len in
    let one = rw (← c.self.view_is) at (subst (λ (n : ℕ). IsOnePlace c.args.self.now c.args.at n) (sym count) c.requires.one) in
    let state : c.is_in-alone.result ≡ eqb (state_in c.self.inside.memory.items (c.args.at / 64)) 0 = c.is_in-alone.ensures ∙ ap (λ (l : List ℕ). eqb (state_in l (c.args.at / 64)) 0) c.deref.ensures.value in
    rw (← c.self.view_is) (reads_one _ (g.D.Disk.seen c.args.master.now) (g.D.Disk.seen c.read_one.new.master) (option_map g.D.Disk.seen c.read_one.new.shadow) c.args.at c.read_one.new.out (omega (arith, count)) (search rules) one
    _ c.read_one.result state c.read_one.ensures.reads)
