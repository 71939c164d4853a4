use Rattle.std.proofs.Common.{◌≡◌, ℕ, ◌+◌, ◌/◌, inl, length, refl, sym, ◌∙◌, ap}
use Rattle.std.proofs.lemmas.Bool.{eqb-true}
use Rattle.avs_seg.specs.Image.{blocks_of}
use Rattle.avs_seg.proofs.Puts.{put_none}
use Rattle.avs_seg.proofs.Bytes.{length-blocks_of}
use Rattle.avs_dev.specs.Memory.{counted}
use Rattle.avs_dev.proofs.Going.{goes_same}
use Rattle.avs_land.specs.Landed.{area_of}
use Rattle.avs_land.proofs.area.write_area.Goals as goal

-- without blocks nothing is written
pub returns-then-is_empty : goal.returns-then-is_empty
returns-then-is_empty g c =
    let disk = g.D.Disk.seen c.args.disk.now in
    let zero_bytes : length c.args.bytes.now ≡ 0 = eqb-true (length c.args.bytes.now) 0 (sym c.is_empty.ensures ∙ c.if-is_empty.true) in
    let none : length c.args.bytes.now / 512 ≡ 0 = ap (λ (n : ℕ). n / 512) zero_bytes in
    record {
      goes = goes_same disk _;
      done = λ told. sym (put_none disk.image (area_of c.args.place) (blocks_of c.args.bytes.now) (length-blocks_of c.args.bytes.now ∙ none));
      failed = λ told. tt;
      written = inl refl;
      counted = ap (λ (n : ℕ). counted disk.written (n + 1)) (sym none);
      unwritten = tt;
    }
