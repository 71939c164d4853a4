use Rattle.std.proofs.Common.{◌≡◌, ℕ, List, ap, sym, refl, ◌∙◌}
use Rattle.std.proofs.lemmas.Bool.{eqb-true}
use Rattle.avs_chunks.specs.States.{state_in}
use Rattle.avs_chunks.specs.ChunkSet.{ChunkSet, state_of}
use Rattle.avs_chunks.proofs.chunks.Chunks.save_before.Goals as goal

pub returns-then-is_in : goal.returns-then-is_in
returns-then-is_in g c =
    let is : state_of c.args.self.now c.args.chunk ≡ 2 =
    ap (λ (s : ChunkSet). state_of s c.args.chunk) (sym c.self.view_is)
    ∙ ap (λ (l : List ℕ). state_in l c.args.chunk) (sym c.deref.ensures.value)
    ∙ eqb-true (state_in c.deref.result.now c.args.chunk) 2 (sym c.is_in.ensures ∙ c.if-is_in.true) in
    record { settles = λ whole. absurd (whole is); nothing = λ _. record { ok = refl; set = refl; master = refl } }
