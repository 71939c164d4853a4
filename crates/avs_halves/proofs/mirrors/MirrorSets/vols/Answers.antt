use Rattle.std.proofs.Common.{◌≡◌, map, sym, ◌∙◌, ap}
use Rattle.std.proofs.lemmas.Simd.{map-map}
use Rattle.std.proofs.lemmas.Result.{IfOk-weaker}
use Rattle.avs_halves.specs.declared.mirrors.Mirror.{Mirror}
use Rattle.avs_halves.specs.SetBits.{SetBits}
use Rattle.avs_halves.specs.MirrorView.{set_bits}
use Rattle.avs_halves.proofs.mirrors.MirrorSets.vols.Goals as goal

pub returns : goal.returns
returns g c =
    let items = c.self.inside.sets.items in
    let same : map (λ (m : Mirror g.row.D.Denot). m.vol) c.deref.result.now ≡ map (λ (s : SetBits). s.vol) (map set_bits items) =
    ap (λ l. map (λ (m : Mirror g.row.D.Denot). m.vol) l) c.deref.ensures.value ∙ sym (map-map (λ (s : SetBits). s.vol) set_bits items) in
    rw (← c.self.view_is) (IfOk-weaker c.volumes.result (λ v. v.items ≡ map (λ (m : Mirror g.row.D.Denot). m.vol) c.deref.result.now) (λ v. v.items ≡ map (λ (s : SetBits). s.vol) (map set_bits items)) (λ v is. is ∙ same) c.volumes.ensures)
