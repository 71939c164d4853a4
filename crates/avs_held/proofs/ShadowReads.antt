-- Blocks of the shadow of a set in chunks are read.
use Rattle.std.proofs.Common.{◌≡◌, ℕ, ◌/◌, IsTrue, List, length, Result, ◌∙◌, sym, refl, ap, subst}
use Rattle.std.proofs.lemmas.Result.{on_ok_weaker}
use Rattle.avs_seg.specs.Image.{Image, block_at, range}
use Rattle.avs_dev.specs.Seen.{Seen, shown}
use Rattle.avs_chunks.specs.ChunkSet as chunk
use Rattle.avs_chunks.specs.ChunkSet.{ChunkSet, disk_of, disk_state, shadow_by, shadow_image}
use Rattle.avs_chunks.specs.Calls as calls
use Rattle.avs_sets.specs.Says.{BlockSays}
use Rattle.avs_sets.specs.Sets as sets
use Rattle.avs_sets.specs.Sets.{SetSeen, SetRead, shadow_disk, KeepsMaster, KeepsShadow}
use Rattle.avs_sets.specs.Meaning.{shadow_over}
use Rattle.avs_sets.specs.Steps.{read_over, IsKnown, ShowsSame}
use Rattle.avs_held.specs.declared.held.Seat.{Seat}
use Rattle.avs_held.specs.Held.{chunk_set}
use Rattle.avs_held.specs.Calls.{ReadsShadow}
use Rattle.avs_held.specs.Rooms.{Mine, on_disks}
use Rattle.avs_over.specs.Over.{OverSet}
use Rattle.avs_held.proofs.Projected.{same_disk, plain_read}
use Rattle.avs_held.proofs.Keeping.{IsSameHeld, known_set, known_read, master_shown, shows_same}

-- ---- nothing is read otherwise

pub master_same : (s : SetRead) (m : Image) → KeepsMaster s m s m
master_same s m = record { master = λ i lt. refl; only = λ i lt ne. refl; alike = λ a. a; back = λ c lt e. e; splits = λ c lt e. e }

pub shadow_same : (s : SetRead) (m : Image) → KeepsShadow s m s m
shadow_same s m = record { shadow = λ i lt. refl }

-- ---- the image

pub plain_image : (s : ChunkSet) (m : Image) → shadow_over (plain_read s) m ≡ shadow_image s m
unfolding shadow_by
plain_image s m = refl

pub image_is : (says : BlockSays) (seat : Seat) (s : ChunkSet) (m over : Seen) → IsKnown says (chunk_set seat s) m over → shadow_over (read_over says (chunk_set seat s) over) (shown m) ≡ shadow_image s m.image
image_is says seat s m over kn = (λ p. shadow_over (known_read says seat s m over kn p) (master_shown says seat s m over kn p)) ∙ plain_image s m.image

module _ (seat : Seat) (s s' : ChunkSet) (m m' : Seen) (at : ℕ) (out : List ℕ) {T E : Type 0} (r : Result T E) (a : calls.ReadsShadow s m at out r s' m') where
  held : IsSameHeld s s'
  held = record { kind = ap (λ (x : ChunkSet). x.kind) a.rest; blocks = ap (λ (x : ChunkSet). x.blocks) a.rest; live_b = ap (λ (x : ChunkSet). x.areas.live_b) a.rest }

  reads_same : plain_read s' ≡ plain_read s
  reads_same = λ p. record { blocks = (a.rest p).blocks; state = λ c. disk_state (a.rest p) c; stands = λ i. block_at (a.shadow p).image i }

  image_same : m'.image ≡ m.image
  image_same = ap (λ (d : Seen). d.image) a.master

  on_same : (P : SetRead → Image → SetRead → Image → Type 0) → P (plain_read s) m.image (plain_read s) m.image → P (plain_read s) m.image (plain_read s') m'.image
  on_same P is = subst (λ (x : Image). P (plain_read s) m.image (plain_read s') x) (sym image_same) (subst (λ (x : SetRead). P (plain_read s) m.image x m.image) (sym reads_same) is)

  step : (says : BlockSays) (over : Seen) (mine : ℕ → Type 0) → ShowsSame says mine (chunk_set seat s) m over r (chunk_set seat s') m' over
  step says over mine = shows_same says seat s s' m m' over r held a.goes (λ told. record { behind = λ i le. ap (λ (d : Seen). block_at d.image i) a.shadow }) mine
      (λ k. on_ok_weaker r (λ is. subst (λ (x : ChunkSet). chunk.IsKnown x) (sym is.0) k) a.same)
      (λ k told. on_same KeepsMaster (master_same (plain_read s) m.image))
      (λ k told. on_same KeepsShadow (shadow_same (plain_read s) m.image))
      (λ k c lt. ap (λ (x : ChunkSet). disk_state x c) a.rest)

  pub reads_set : (o : OverSet) → ReadsShadow (on_disks (chunk_set seat s) m o) at out r (on_disks (chunk_set seat s') m' o)
  reads_set o = record {
    step = λ owned says. step says o.disk (Mine (chunk_set seat s) o);
    same = on_ok_weaker r (λ is p. on_disks (chunk_set seat (is.0 p)) (is.1 p) o) a.same;
    reads = record {
      rest = ap (λ (x : ChunkSet). chunk_set seat x) a.rest;
      there = a.there;
      shadow = subst (λ (d : Seen). sets.disk_of s'.shadow ≡ record d { faults = (sets.disk_of s'.shadow).faults }) (sym (same_disk s.shadow))
          (subst (λ (d : Seen). d ≡ record (disk_of s.shadow) { faults = d.faults }) (sym (same_disk s'.shadow)) a.shadow);
      master = a.master;
      over = refl;
    };
    sure = λ m_steady s_steady o_steady. a.sure m_steady (subst (λ (d : Seen). IsTrue d.steady) (same_disk s.shadow) s_steady);
    shows = λ says kn. on_ok_weaker r (λ is. is ∙ sym (ap (λ (img : Image). range img at (length out / 512)) (image_is says seat s m o.disk kn))) (a.shows (known_set says seat s m o.disk kn) kn.master);
  }
