-- Blocks of the shadow of a set in chunks are written whose chunks are split.
use Rattle.std.proofs.Common.{◌≡◌, ◌≢◌, ◌⊎◌, inl, inr, ℕ, ◌+◌, ◌*◌, ◌/◌, ◌<◌, ◌≤◌, not, cond, eqb, List, length, Result, OnOk, ◌∙◌, sym, refl, ap, subst, arith}
use Rattle.std.proofs.lemmas.Bool.{cases_lt, cases_eq}
use Rattle.std.proofs.lemmas.Result.{on_ok_weaker, on_err_weaker}
use Rattle.avs_seg.specs.Image.{Block, Image, block_at, blocks_of, put, IsMix}
use Rattle.avs_seg.proofs.Exits.{ok_exit}
use Rattle.avs_seg.proofs.Bytes.{length-blocks_of}
use Rattle.avs_dev.specs.Seen.{Seen, IsTold, shown}
use Rattle.avs_dev.specs.Devices.{AllGoOn}
use Rattle.avs_dev.specs.Memory.{counted}
use Rattle.avs_flip.specs.Areas.{live}
use Rattle.avs_chunks.specs.States.{state_in, state_on}
use Rattle.avs_chunks.specs.ChunkSet as chunk
use Rattle.avs_chunks.specs.ChunkSet.{ChunkSet, disk_of, disk_state, shadow_by, shadow_image}
use Rattle.avs_chunks.specs.Disks.{three, disk_at}
use Rattle.avs_chunks.specs.Calls as calls
use Rattle.avs_chunks.proofs.Going.{cond_is, cond_not, shadow_goes}
use Rattle.avs_chunks.proofs.Images.{shadow-mix, shadow-put}
use Rattle.avs_sets.specs.Says.{BlockSays}
use Rattle.avs_sets.specs.Sets as sets
use Rattle.avs_sets.specs.Sets.{SetSeen, SetRead, shadow_disk, KeepsMaster}
use Rattle.avs_sets.specs.Meaning.{shadow_over}
use Rattle.avs_sets.specs.Whole.{IsSettled}
use Rattle.avs_sets.specs.Steps.{read_over, IsKnown, PutsShadow}
use Rattle.avs_held.specs.declared.held.Seat.{Seat}
use Rattle.avs_held.specs.Held.{area_of, own_map, chunk_set}
use Rattle.avs_held.specs.Rooms.{Mine, on_disks}
use Rattle.avs_over.specs.Over.{OverSet}
use Rattle.avs_held.specs.Calls.{IsSplit, WritesShadow}
use Rattle.avs_held.proofs.Projected.{same_disk, plain_read}
use Rattle.avs_held.proofs.Keeping.{IsSameHeld, known_set, read_now, master_now, same_states, keeps, owned_kept}
use Rattle.avs_held.proofs.ShadowReads.{plain_image, image_is}

-- a choice by a state
chosen : (n k : ℕ) (x x' y : Block) → (n ≡ k → x' ≡ x) → cond (eqb n k) x' y ≡ cond (eqb n k) x y
chosen n k x x' y same = elim (cases_eq n k) [
  | inl is ↦ cond_is n k x' y is ∙ same is ∙ sym (cond_is n k x y is)
  | inr ne ↦ cond_not n k x' y ne ∙ sym (cond_not n k x y ne)
]

module _ (seat : Seat) (s s' : ChunkSet) (at : ℕ) (bytes : List ℕ) {T E : Type 0} (r : Result T E) (a : calls.PutsShadow s at bytes r s') (some : 0 < length bytes) (whole : 512 * (length bytes / 512) ≡ length bytes)
    (inside : at + length bytes / 512 ≤ s.blocks) (room : s.blocks ≤ (disk_of s.shadow).size) (split : IsSplit (chunk_set seat s) at (length bytes / 512)) where
  held : IsSameHeld s s'
  held = record { kind = ap (λ (x : ChunkSet). x.kind) a.rest; blocks = ap (λ (x : ChunkSet). x.blocks) a.rest; live_b = ap (λ (x : ChunkSet). x.areas.live_b) a.rest }

  goes : (m : Seen) → AllGoOn (disk_at s m) r (disk_at s' m)
  goes m = subst (λ (b : Seen). AllGoOn (disk_at s m) r (three m (disk_of s'.shadow) b)) (sym (ap (λ (x : ChunkSet). x.areas.disk) a.rest)) (shadow_goes m (disk_of s.shadow) (disk_of s'.shadow) s.areas.disk r a.writes.goes)

  behind : IsTold (disk_of s.shadow) → calls.KeepsBehind s s'
  behind told = record { behind = λ i le. (a.writes.within told).outside i (inr (omega (arith, le, inside))) }

  known : chunk.IsKnown s → OnOk r (chunk.IsKnown s')
  known k = ok_exit r (subst (λ (x : ChunkSet). chunk.IsKnown x) (sym a.rest) (record { shadow = a.writes.told k.shadow; bitmap = k.bitmap; step = record { each = k.step.each } }))

  state_same : (c : ℕ) → disk_state s' c ≡ disk_state s c
  state_same c = ap (λ (x : ChunkSet). disk_state x c) a.rest

  module _ (k : chunk.IsKnown s) where
    all : (i : ℕ) → at ≤ i → i < at + length bytes / 512 → disk_state s (i / 64) ≡ 2
    all i low high = sym (k.step.each (i / 64) (omega (arith, high, inside))) ∙ split.each (i / 64) (omega (arith, low)) (omega (arith, high))

    -- what is not split lies elsewhere
    apart : (i n : ℕ) → n ≢ 2 → disk_state s (i / 64) ≡ n → (i < at) ⊎ (at + length bytes / 512 ≤ i)
    apart i n ne is = elim (cases_lt i at) [
      | inl low ↦ inl low
      | inr le ↦ elim (cases_lt i (at + length bytes / 512)) [
        | inl high ↦ absurd (ne (sym is ∙ all i le high))
        | inr past ↦ inr past
      ]
    ]

    stays : (i n : ℕ) → n ≢ 2 → disk_state s (i / 64) ≡ n → block_at (disk_of s'.shadow).image i ≡ block_at (disk_of s.shadow).image i
    stays i n ne is = (a.writes.within k.shadow).outside i (apart i n ne is)

    three_not : ◌≢◌ {A = ℕ} 3 2
    three_not e = omega (arith, e)

    one_not : ◌≢◌ {A = ℕ} 1 2
    one_not e = omega (arith, e)

    master : (m : Image) → KeepsMaster (plain_read s) m (plain_read s') m
    master m = record {
      master = λ i lt. ap (λ (n : ℕ). cond (eqb n 3) (block_at (disk_of s'.shadow).image i) (block_at m i)) (state_same (i / 64))
          ∙ chosen (disk_state s (i / 64)) 3 (block_at (disk_of s.shadow).image i) (block_at (disk_of s'.shadow).image i) (block_at m i) (λ is. stays i 3 three_not is);
      only = λ i lt ne. refl;
      alike = λ x. record { same = λ i lt is. stays i 1 one_not (sym (state_same (i / 64)) ∙ is) ∙ x.same i (subst (λ (n : ℕ). i < n) held.blocks lt) (sym (state_same (i / 64)) ∙ is) };
      back = λ c lt e. sym (state_same c) ∙ e;
      splits = λ c lt e. state_same c ∙ e;
    }

    -- the image
    over_same : (m : Image) → shadow_image s' m ≡ shadow_by s.blocks (live s.areas) (disk_of s'.shadow).image m
    over_same m = λ p. shadow_by (a.rest p).blocks (live (a.rest p).areas) (disk_of s'.shadow).image m

    room_shown : s.blocks ≤ length (disk_of s.shadow).image
    room_shown = omega (arith, room, k.shadow)

    put_now : (m : Image) → (disk_of s'.shadow).image ≡ put (disk_of s.shadow).image at (blocks_of bytes) → shadow_image s' m ≡ put (shadow_image s m) at (blocks_of bytes)
    put_now m is = over_same m ∙ ap (λ (img : Image). shadow_by s.blocks (live s.areas) img m) is
        ∙ shadow-put s.blocks (live s.areas) m (disk_of s.shadow).image at (length bytes / 512) all inside (blocks_of bytes) (length-blocks_of bytes) room_shown

    mix_now : (m : Image) → IsMix (disk_of s.shadow).image at (blocks_of bytes) (disk_of s'.shadow).image → IsMix (shadow_image s m) at (blocks_of bytes) (shadow_image s' m)
    mix_now m mix = subst (λ (x : Image). IsMix (shadow_image s m) at (blocks_of bytes) x) (sym (over_same m))
        (shadow-mix s.blocks (live s.areas) m (disk_of s.shadow).image at (length bytes / 512) all inside (blocks_of bytes) (disk_of s'.shadow).image (length-blocks_of bytes) mix)

  module _ (says : BlockSays) (m over : Seen) where
    image_now : IsKnown says (chunk_set seat s) m over → shadow_over (read_over says (chunk_set seat s') over) (shown m) ≡ shadow_image s' m.image
    image_now kn = (λ p. shadow_over (read_now says seat s s' m m over r held (goes m) behind kn p) (master_now says seat s s' m m over r held (goes m) behind kn p)) ∙ plain_image s' m.image

    step : (mine : ℕ → Type 0) → PutsShadow says mine (chunk_set seat s) m over at (blocks_of bytes) r (chunk_set seat s') m over
    step mine = record {
      keeps = keeps says seat s s' m m over r held (goes m) behind mine known (λ k told. master k m.image);
      same = λ kn. same_states says seat s s' m m over r held (goes m) behind kn (λ c lt. state_same c);
      done = λ kn. on_ok_weaker r (λ is. image_now kn ∙ put_now (known_set says seat s m over kn) m.image is ∙ sym (ap (λ (x : Image). put x at (blocks_of bytes)) (image_is says seat s m over kn)))
          (a.writes.done (known_set says seat s m over kn).shadow);
      stopped = λ kn. on_err_weaker r (λ mix. subst (λ (x : Image). IsMix x at (blocks_of bytes) (shadow_over (read_over says (chunk_set seat s') over) (shown m))) (sym (image_is says seat s m over kn))
          (subst (λ (x : Image). IsMix (shadow_image s m.image) at (blocks_of bytes) x) (sym (image_now kn)) (mix_now (known_set says seat s m over kn) m.image mix)))
          (a.writes.failed (known_set says seat s m over kn).shadow);
    }

  some_blocks : length bytes / 512 ≢ 0
  some_blocks e = omega (arith, e, whole, some)

  pub writes_set : (m : Seen) (o : OverSet) → WritesShadow (on_disks (chunk_set seat s) m o) at bytes r (on_disks (chunk_set seat s') m o)
  writes_set m o = record {
    step = λ owned says. step says m o.disk (Mine (chunk_set seat s) o);
    rest = ap (λ (x : ChunkSet). chunk_set seat x) a.rest;
    keeps = record {
      bitmap = λ told. record {
        label = ap (λ (x : ChunkSet). block_at (shown x.areas.disk) 0) a.rest;
        staged = ap (λ (x : ChunkSet). own_map (λ c. state_on (area_of x.areas (not s.areas.live_b)) c)) a.rest;
      };
      next = ap (λ (x : ChunkSet). own_map (λ c. state_in x.next c)) a.rest;
      there = a.there;
      settled = λ was. subst (λ (x : ChunkSet). IsSettled (chunk_set seat x)) (sym a.rest) (record { kind = was.kind; each = was.each });
      owned = owned_kept seat s s' m m o;
      over = λ is. refl;
    };
    written = λ is. on_ok_weaker r (λ is. ap (λ (d : Seen). d.written) (same_disk s'.shadow) ∙ is
        ∙ sym (cond_not (length bytes / 512) 0 (sets.disk_of s.shadow).written _ some_blocks ∙ ap (λ (d : Seen). counted d.written (length bytes / 512)) (same_disk s.shadow))) a.writes.counted;
    unwritten = λ is. on_err_weaker r (λ is. ap (λ (d : Seen). d.written) (same_disk s'.shadow) ∙ is ∙ sym (ap (λ (d : Seen). d.written) (same_disk s.shadow))) a.writes.uncounted;
  }
