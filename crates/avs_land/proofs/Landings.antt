-- An entry lands: its blocks, and then its header.
use Rattle.std.proofs.Common.{◌≡◌, inl, inr, ℕ, ◌+◌, ◌/◌, ◌<◌, ◌≤◌, List, [], ◌∷◌, length, Some, Ok, Err, refl, sym, ◌∙◌, ap, subst, arith}
use Rattle.avs_seg.specs.Image.{Block, Image, put, blocks_of, IsMix}
use Rattle.avs_seg.proofs.Bytes.{length-blocks_of}
use Rattle.avs_seg.proofs.Mixes.{IsMix-put}
use Rattle.avs_dev.specs.Seen.{Seen, IsTold}
use Rattle.avs_dev.specs.Memory.{counted}
use Rattle.avs_dev.proofs.Going.{goes_then, goes_ok, goes_err}
use Rattle.avs_code.specs.Header.{IsLandHeader}
use Rattle.avs_code.specs.declared.land_headers.LandHeader.{LandHeader}
use Rattle.avs_model.specs.declared.entry.Entry.{Entry}
use Rattle.avs_land.specs.Landed.{area_of, header_for, IsLanding, IsReadable, HasLanded}
use Rattle.avs_land.specs.Landing.{Landing, ChangesLanding, KeepsLanded, Lands}
use Rattle.avs_land.specs.Steps.{WritesBlock, PutsArea}
use Rattle.avs_land.proofs.Areas.{keeps_landed, changes_mix, header_stays_mix, changes_landed, found}
use Rattle.avs_land.proofs.Writing.{block_done, block_torn, block_counted}

module _ (old : Landing) (session place : ℕ) (entry : Entry) (bytes : List ℕ) (blocks : blocks_of bytes ≡ entry.bytes) (room : 514 ≤ old.disk.size) (few : length entry.bytes ≤ 256) where
  count : length bytes / 512 ≡ length entry.bytes
  count = sym (length-blocks_of bytes) ∙ ap (λ (img : Image). length img) blocks

  -- ---- a part of the blocks alone

  module _ (d : Seen) (torn : IsTold old.disk → IsMix old.disk.image (area_of place) entry.bytes d.image) where
    changes : IsTold old.disk → ChangesLanding place (length entry.bytes) old.disk.image d.image
    changes told = changes_mix place old.disk.image entry.bytes d.image (torn told)

    keeps : IsTold old.disk → (h : LandHeader) → IsLanding old.disk.image h → KeepsLanded h old.disk.image place d.image
    keeps told h is = keeps_landed h place (length entry.bytes) old.disk.image d.image (changes told) few (header_stays_mix place old.disk.image entry.bytes d.image (torn told)) is

    still : IsTold old.disk → IsReadable old.disk.image → IsReadable d.image
    still told r = record { header = r.header; is = (keeps told r.header r.is).is }

  pub area_failed : {T E T' E' : Type 0} (d : Seen) (e : E) (e' : E') → PutsArea {T = T} old.disk (area_of place) bytes (Err e) d → Lands {T = T'} old session place entry (Err e') (record { disk = d; header = old.header })
  area_failed d e e' p =
      let torn = λ (told : IsTold old.disk). subst (λ (bs : Image). IsMix old.disk.image (area_of place) bs d.image) blocks (p.failed told) in
      record {
        goes = goes_err old.disk d e e' p.goes;
        header = refl;
        only = changes d torn;
        readable = still d torn;
        done = λ told r. tt;
        failed = λ told h is. inl (keeps d torn told h is);
        written = tt;
        unwritten = inl p.unwritten;
      }

  -- ---- all blocks, and then the header

  abbrev IsMine : Block → Type 0
  IsMine b = IsLandHeader b (header_for session place entry)

  module _ {T E : Type 0} (mid d : Seen) (x : T) (p : PutsArea {T = T} {E = E} old.disk (area_of place) bytes (Ok x) mid) where
    put_there : IsTold old.disk → mid.image ≡ put old.disk.image (area_of place) entry.bytes
    put_there told = p.done told ∙ ap (put old.disk.image (area_of place)) blocks

    mid_told : IsTold old.disk → IsTold mid
    mid_told = p.goes.lasts.told

    header_room : 1 < mid.size
    header_room = omega (arith, p.goes.lasts.size)

    landed : (b : Block) → IsTold old.disk → d.image ≡ put mid.image 1 (b ∷ []) → d.image ≡ put (put old.disk.image (area_of place) entry.bytes) 1 (b ∷ [])
    landed b told is = is ∙ ap (λ (img : Image). put img 1 (b ∷ [])) (put_there told)

    mine : (b : Block) → IsMine b → IsTold old.disk → d.image ≡ put mid.image 1 (b ∷ []) → IsReadable old.disk.image → HasLanded d.image (header_for session place entry) (Some (record { session = session; place = place; entry = entry }))
    mine b is told image r =
        subst (λ (img : Image). HasLanded img (header_for session place entry) (Some (record { session = session; place = place; entry = entry }))) (sym (landed b told image)) (found session place entry old.disk.image b (omega (arith, told)) few r is)

    mine_only : (b : Block) → IsTold old.disk → d.image ≡ put mid.image 1 (b ∷ []) → ChangesLanding place (length entry.bytes) old.disk.image d.image
    mine_only b told image = subst (λ (img : Image). ChangesLanding place (length entry.bytes) old.disk.image img) (sym (landed b told image)) (changes_landed place old.disk.image entry.bytes b)

    -- the header did not come: all blocks of the entry, and the old header
    whole : IsTold old.disk → d.image ≡ mid.image → IsMix old.disk.image (area_of place) entry.bytes d.image
    whole told same = subst (λ (img : Image). IsMix old.disk.image (area_of place) entry.bytes img) (sym (same ∙ put_there told)) (IsMix-put old.disk.image (area_of place) entry.bytes)

    pub header_done : {T' E' T'' E'' : Type 0} (y : T') (y' : T'') → WritesBlock {T = T'} {E = E'} IsMine 1 mid (Ok y) d → Lands {E = E''} old session place entry (Ok y') (record { disk = d; header = header_for session place entry })
    header_done y y' w =
        let image = λ (told : IsTold old.disk). block_done IsMine 1 mid d header_room y w (mid_told told) in
        record {
          goes = goes_then old.disk mid d x (Ok y') p.goes (goes_ok mid d y y' w.writes.goes);
          header = refl;
          only = λ told. mine_only w.block told (image told);
          readable = λ told r. record { header = header_for session place entry; is = (mine w.block w.is told (image told) r).is };
          done = λ told r. mine w.block w.is told (image told) r;
          failed = λ told h is. tt;
          written = block_counted IsMine 1 mid d header_room y w ∙ p.counted ∙ ap (λ (n : ℕ). counted old.disk.written (n + 1)) count;
          unwritten = tt;
        }

    pub header_failed : {T' E' T'' E'' : Type 0} (e : E') (e' : E'') → WritesBlock {T = T'} IsMine 1 mid (Err e) d → Lands {T = T''} old session place entry (Err e') (record { disk = d; header = old.header })
    header_failed e e' w =
        let torn = λ (told : IsTold old.disk). block_torn IsMine 1 mid d header_room e w (mid_told told) in
        record {
          goes = goes_then old.disk mid d x (Err e') p.goes (goes_err mid d e e' w.writes.goes);
          header = refl;
          only = λ told. elim (torn told) [
            | inl same ↦ changes_mix place old.disk.image entry.bytes d.image (whole told same)
            | inr image ↦ mine_only w.block told image
          ];
          readable = λ told r. elim (torn told) [
            | inl same ↦ still d (λ _. whole told same) told r
            | inr image ↦ record { header = header_for session place entry; is = (mine w.block w.is told image r).is }
          ];
          done = λ told r. tt;
          failed = λ told h is. elim (torn told) [
            | inl same ↦ inl (keeps d (λ _. whole told same) told h is)
            | inr image ↦ inr (mine w.block w.is told image (record { header = h; is = is }))
          ];
          written = tt;
          unwritten = elim p.written [
            | inl none ↦ inl (w.writes.uncounted ∙ none)
            | inr all ↦ inr (w.writes.uncounted ∙ all ∙ ap (λ (n : ℕ). counted old.disk.written n) count)
          ];
        }
