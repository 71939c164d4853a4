use Rattle.std.proofs.Common.{◌≡◌, ◌∙◌, Some, length, take, drop, length-take, ap, arith}
use Rattle.std.proofs.lemmas.List.{take_rest}
use Rattle.avs_io.proofs.MemoryLemmas.{gives_front}
use Rattle.avs_io.proofs.memory.MemSourceSource.read.Goals as goal

pub returns-clause-bytes : goal.returns-clause-bytes
returns-clause-bytes c =
    let s = c.self.inside in
    let n = c.min-count.result in
    let given = c.copy_from_slice.new.self in
    let out = c.args.out.now in
    let is : given ≡ take n (drop s.at s.bytes.items) =
    c.copy_from_slice.ensures.after ∙ ap (take n) (take_rest c.deref-2.result.now s.at ∙ ap (drop s.at) c.deref-2.ensures.value) in
    let size : length given ≡ n = omega (arith, c.copy_from_slice.ensures.len, length-take n out, c.min.ensures, c.min-count.ensures) in
    rw (← c.self.view_is) (ap Some (gives_front s.bytes.items out given s.at n is size))
