-- What a write of one block, a read and a turn make of two areas.
use Rattle.std.proofs.Common.{◌≡◌, ◌⊎◌, inl, inr, ℕ, ◌+◌, ◌*◌, ◌/◌, ◌<◌, ◌≤◌, Bool, true, false, not, cond, [], ◌∷◌, length, Result, Ok, Err, OnOk, refl, sym, ◌∙◌, ap, subst, arith}
use Rattle.avs_seg.specs.Image.{Block, Image, block_at, range, put, IsMix, ChangesWithin}
use Rattle.avs_seg.proofs.Blocks.{same_place}
use Rattle.avs_seg.proofs.Bytes.{blocks_of_one}
use Rattle.avs_seg.proofs.Changes.{ChangesWithin_wider, range_apart}
use Rattle.avs_seg.proofs.Mixes.{range-mix_one}
use Rattle.avs_seg.proofs.Ranges.{block_at-range, range-put_one}
use Rattle.avs_dev.specs.Seen.{Seen, IsTold, Reads, Writes}
use Rattle.avs_flip.specs.Areas.{Areas, live, staged, live_from, staged_from}
use Rattle.avs_flip.specs.Changes.{SetsBlock, Stages, PutsLive, ReadsLive, Turns}

-- ---- one block of a disk is written

-- no other block changes
ChangesWithin-one : {T E : Type 0} (d e : Seen) (at : ℕ) (block : Block) (result : Result T E) → length block ≡ 512 → Writes d at block result e → IsTold d → ChangesWithin at 1 d.image e.image
ChangesWithin-one d e at block result one w told = subst (λ (n : ℕ). ChangesWithin at n d.image e.image) (ap (λ (n : ℕ). n / 512) one) (w.within told)

-- in a range around it, that block is set
SetsBlock-range : {T E : Type 0} (d e : Seen) (from len at : ℕ) (block : Block) (result : Result T E) → at < len → from + len ≤ d.size → length block ≡ 512 → Writes d (from + at) block result e → IsTold d → SetsBlock (range d.image from len) at block result (range e.image from len)
SetsBlock-range d e from len at block (Ok x) lt fits one w told = record {
  done = ap (λ (l : Image). range l from len) (w.done told ∙ ap (λ (l : Image). put d.image (from + at) l) (blocks_of_one block one)) ∙ range-put_one d.image from len at block lt (omega (arith, told));
  failed = tt;
}
SetsBlock-range d e from len at block (Err x) lt fits one w told = record {
  done = tt;
  failed = range-mix_one d.image from len at block e.image lt (omega (arith, told)) (subst (λ (l : Image). IsMix d.image (from + at) l e.image) (blocks_of_one block one) (w.failed told));
}

-- a range apart from it is kept
range_kept : {T E : Type 0} (d e : Seen) (at : ℕ) (block : Block) (result : Result T E) (from len : ℕ) → length block ≡ 512 → (from + len ≤ at) ⊎ (at + 1 ≤ from) → Writes d at block result e → IsTold d → range e.image from len ≡ range d.image from len
range_kept d e at block result from len one apart w told = range_apart at 1 d.image e.image from len (ChangesWithin-one d e at block result one w told) apart

-- ---- where the two areas lie

-- a block of the one is apart from the other
staged_apart : (b : Bool) (first len at : ℕ) → at < len → (cond b (first + len) first + len ≤ cond b first (first + len) + at) ⊎ (cond b first (first + len) + at + 1 ≤ cond b (first + len) first)
staged_apart true first len at lt = inr (omega arith)
staged_apart false first len at lt = inl (omega arith)

live_apart : (b : Bool) (first len at : ℕ) → at < len → (cond b first (first + len) + len ≤ cond b (first + len) first + at) ⊎ (cond b (first + len) first + at + 1 ≤ cond b first (first + len))
live_apart true first len at lt = inl (omega arith)
live_apart false first len at lt = inr (omega arith)

-- neither begins before the first, and neither ends behind the second
live_begin : (b : Bool) (first len : ℕ) → first ≤ cond b (first + len) first
live_begin true first len = omega arith
live_begin false first len = omega arith

live_end : (b : Bool) (first len : ℕ) → cond b (first + len) first + len ≤ first + 2 * len
live_end true first len = omega arith
live_end false first len = omega arith

staged_begin : (b : Bool) (first len : ℕ) → first ≤ cond b first (first + len)
staged_begin true first len = omega arith
staged_begin false first len = omega arith

staged_end : (b : Bool) (first len : ℕ) → cond b first (first + len) + len ≤ first + 2 * len
staged_end true first len = omega arith
staged_end false first len = omega arith

-- a block of either is one of the two
ChangesWithin-both : {T E : Type 0} (d e : Seen) (first len from at : ℕ) (block : Block) (result : Result T E) → at < len → first ≤ from → from + len ≤ first + 2 * len → length block ≡ 512 → Writes d (from + at) block result e → IsTold d → ChangesWithin first (2 * len) d.image e.image
ChangesWithin-both d e first len from at block result lt begin end one w told = ChangesWithin_wider (from + at) 1 first (2 * len) d.image e.image (omega arith) (omega arith) (ChangesWithin-one d e (from + at) block result one w told)

-- ---- the calls

module _ (a : Areas) (e : Seen) (at : ℕ) (block : Block) {T E : Type 0} (result : Result T E) (lt : at < a.len) (one : length block ≡ 512) (fits : a.first + 2 * a.len ≤ a.disk.size) where
  pub Stages-write : (from : ℕ) → from ≡ staged_from a → Writes a.disk (from + at) block result e → Stages a at block result (record a { disk = e })
  unfolding live staged
  Stages-write from is w =
      let w' : Writes a.disk (staged_from a + at) block result e = subst (λ (n : ℕ). Writes a.disk (n + at) block result e) is w in
      record {
        place = refl;
        len = refl;
        told = w'.told;
        cause = w'.cause;
        writes = w';
        kept = range_kept a.disk e (staged_from a + at) block result (live_from a) a.len one (staged_apart a.live_b a.first a.len at lt) w';
        sets = SetsBlock-range a.disk e (staged_from a) a.len at block result lt (omega (arith, staged_end a.live_b a.first a.len)) one w';
        within = ChangesWithin-both a.disk e a.first a.len (staged_from a) at block result lt (staged_begin a.live_b a.first a.len) (staged_end a.live_b a.first a.len) one w';
      }

  pub PutsLive-write : (from : ℕ) → from ≡ live_from a → Writes a.disk (from + at) block result e → PutsLive a at block result (record a { disk = e })
  unfolding live staged
  PutsLive-write from is w =
      let w' : Writes a.disk (live_from a + at) block result e = subst (λ (n : ℕ). Writes a.disk (n + at) block result e) is w in
      record {
        place = refl;
        len = refl;
        told = w'.told;
        cause = w'.cause;
        writes = w';
        kept = range_kept a.disk e (live_from a + at) block result (staged_from a) a.len one (live_apart a.live_b a.first a.len at lt) w';
        sets = SetsBlock-range a.disk e (live_from a) a.len at block result lt (omega (arith, live_end a.live_b a.first a.len)) one w';
        within = ChangesWithin-both a.disk e a.first a.len (live_from a) at block result lt (live_begin a.live_b a.first a.len) (live_end a.live_b a.first a.len) one w';
      }

-- a block that is read is that of the range around it
shown_block : {T E : Type 0} (d e : Seen) (from len at : ℕ) (out : Block) (result : Result T E) → at < len → length out ≡ 512 → Reads d (from + at) out result e → IsTold d → OnOk result (out ≡ block_at (range d.image from len) at)
shown_block d e from len at out (Ok x) lt one r told =
    let count : length out / 512 ≡ 1 = ap (λ (n : ℕ). n / 512) one in
    let shown : out ∷ [] ≡ range d.image (from + at) (length out / 512) = sym (blocks_of_one out one) ∙ r.shows told in
    ap (λ (l : Image). block_at l 0) shown
    ∙ block_at-range d.image (from + at) (length out / 512) 0 (omega arith)
    ∙ same_place d.image (from + at + 0) (from + at) (omega arith)
    ∙ sym (block_at-range d.image from len at lt)
shown_block d e from len at out (Err x) lt one r told = tt

pub ReadsLive-read : (a : Areas) (e : Seen) (at : ℕ) (out : Block) {T E : Type 0} (result : Result T E) → at < a.len → length out ≡ 512 → (from : ℕ) → from ≡ live_from a → Reads a.disk (from + at) out result e → ReadsLive a at out result (record a { disk = e })
unfolding live staged
ReadsLive-read a e at out {T} {E} result lt one from is r =
    let r' : Reads a.disk (live_from a + at) out result e = subst (λ (n : ℕ). Reads a.disk (n + at) out result e) is r in
    let same : e.image ≡ a.disk.image = ap (λ (s : Seen). s.image) r'.rest in
    record {
      place = refl;
      len = refl;
      told = r'.told;
      cause = r'.cause;
      reads = r';
      shows = shown_block a.disk e (live_from a) a.len at out result lt one r';
      live_kept = ap (λ (l : Image). range l (live_from a) a.len) same;
      staged_kept = ap (λ (l : Image). range l (staged_from a) a.len) same;
    }

cond-not : (b : Bool) (m n : ℕ) → cond (not b) m n ≡ cond b n m
cond-not true m n = refl
cond-not false m n = refl

pub Turns-not : (a : Areas) → Turns a (record a { live_b = not a.live_b })
unfolding live staged
Turns-not a = record {
  place = refl;
  len = refl;
  now_live = ap (λ (n : ℕ). range a.disk.image n a.len) (cond-not a.live_b (a.first + a.len) a.first);
  now_staged = ap (λ (n : ℕ). range a.disk.image n a.len) (cond-not a.live_b a.first (a.first + a.len));
}
