-- A range that is read in pieces: a read of its first blocks, and one of those behind them, make what one read of all makes.
use Rattle.std.proofs.Common.{◌≡◌, ℕ, ◌+◌, ◌-◌, ◌*◌, ◌/◌, ◌<◌, ◌≤◌, Ok, Err, List, [], ◌++◌, length, take, min, refl, sym, ◌∙◌, ap, subst, arith}
use Rattle.std.specs.Prelude.{Result}
use Rattle.std.specs.List.{position}
use Rattle.std.specs.Str.{bytes_eq}
use Rattle.std.proofs.lemmas.List.{length-append, length-take-le, nil_from_length}
use Rattle.std.proofs.lemmas.Result.{on_ok_weaker, on_err_weaker}
use Rattle.avs_seg.specs.Image.{Image, blocks_of, range}
use Rattle.avs_seg.proofs.Bytes.{length-blocks_of, blocks_of-append}
use Rattle.avs_seg.proofs.Ranges.{length-range, range-append}
use Rattle.avs_model.specs.State.{image_of}
use Rattle.avs_world.specs.declared.ranges.Target.{Target}
use Rattle.avs_world.specs.declared.ranges.TheConstants.{PIECE}
use Rattle.avs_world.specs.Views.{StoreView}
use Rattle.avs_world.specs.Ranges.{IsReached}
use Rattle.avs_world.specs.Causes.{DiskRose, DisksLast}
use Rattle.avs_world.specs.Calls.{ReadsAt, ReadsRuns}

-- a part of a range that is reached
pub reached_part : (store : StoreView) (target : Target) (at len done more : ℕ) → IsReached store target at (512 * len) → done + more ≤ len → 0 < more → IsReached store target (at + done) (512 * more)
reached_part store target at len done more reached within some = record {
  there = reached.there;
  is = reached.is;
  some = omega (arith, some);
  whole = omega arith;
  inside = omega (arith, within, reached.inside);
  filled = reached.filled;
}

-- a piece lies in the buffer
pub part_fits : (piece : List ℕ) (len done more : ℕ) → length piece ≡ 512 * min len PIECE → done + more ≤ len → more ≡ min PIECE (len - done) → more * 512 ≤ length piece
part_fits piece len done more size within is = omega (arith, size, within, is)

pub part_size : (piece : List ℕ) (len done more : ℕ) → length piece ≡ 512 * min len PIECE → done + more ≤ len → more ≡ min PIECE (len - done) → length (take (more * 512) piece) ≡ 512 * more
part_size piece len done more size within is =
    let same : more * 512 ≡ 512 * more = omega arith in
    length-take-le (more * 512) piece (part_fits piece len done more size within is) ∙ same

lasts_on : (old mid new : StoreView) → DisksLast old mid → DisksLast mid new → DisksLast old new
lasts_on old mid new first second = record {
  there = λ name. second.there name ∙ first.there name;
  later = λ name. omega (arith, first.later name, second.later name);
}

-- a disk that failed in the second read failed in both
rose_later : (old mid new : StoreView) → DisksLast old mid → DiskRose mid new → DiskRose old new
rose_later old mid new lasts rose = (rose.0, sym (lasts.there rose.0) ∙ rose.1, omega (arith, lasts.later rose.0, rose.2))

-- nothing is read
pub no_read : {T E : Type 0} (store : StoreView) (target : Target) (at : ℕ) (x : T) → ReadsAt {T = T} {E = E} store target at [] (Ok x) store
no_read store target at x = record {
  names = refl;
  holds = λ steady state holds. holds;
  phase = λ up phase. phase;
  shows = λ steady state name holds sought.
      nil_from_length (blocks_of []) (length-blocks_of []) ∙ sym (nil_from_length (range (image_of state.p name) at 0) (length-range (image_of state.p name) at 0));
  sure = λ steady state holds. tt;
  cause = tt;
  disks = record { there = λ name. refl; later = λ name. omega arith };
  reached = λ from len reached. reached;
}

-- the first blocks, and those behind them
both_show : (img : Image) (at : ℕ) (a b : List ℕ) → 512 * (length a / 512) ≡ length a → blocks_of a ≡ range img at (length a / 512) → blocks_of b ≡ range img (at + length a / 512) (length b / 512)
    → blocks_of (a ++ b) ≡ range img at (length (a ++ b) / 512)
both_show img at a b whole first second =
    let count : length a / 512 + length b / 512 ≡ length (a ++ b) / 512 = omega (arith, whole, length-append a b) in
    blocks_of-append a b (length a / 512) (sym whole)
    ∙ ap (λ (front : Image). front ++ blocks_of b) first
    ∙ ap (λ (behind : Image). range img at (length a / 512) ++ behind) second
    ∙ sym (range-append img at (length a / 512) (length b / 512))
    ∙ ap (range img at) count

-- a read of the first blocks, and one of those behind them, however it ends
pub reads_both : {T T' E E' : Type 0} (old mid new : StoreView) (target : Target) (at : ℕ) (a b : List ℕ) (x : T) (result : Result T' E') → 512 * (length a / 512) ≡ length a
    → ReadsAt {T = T} {E = E} old target at a (Ok x) mid → ReadsAt mid target (at + length a / 512) b result new → ReadsAt old target at (a ++ b) result new
reads_both old mid new target at a b x result whole first second = record {
  names = second.names ∙ first.names;
  holds = λ steady state holds. second.holds steady state (first.holds steady state holds);
  phase = λ up phase. second.phase up (first.phase up phase);
  shows = λ steady state name holds sought.
      on_ok_weaker result (both_show (image_of state.p name) at a b whole (first.shows steady state name holds sought))
      (second.shows steady state name (first.holds steady state holds) (ap (λ (names : List (List ℕ)). position (bytes_eq name) names) first.names ∙ sought));
  sure = λ steady state holds. second.sure steady state (first.holds steady state holds);
  cause = on_err_weaker result (rose_later old mid new first.disks) second.cause;
  disks = lasts_on old mid new first.disks second.disks;
  reached = λ from len reached. second.reached from len (first.reached from len reached);
}

-- a read that failed, by whichever error it is told
failed_as : {T T' E E' : Type 0} (old new : StoreView) (target : Target) (at : ℕ) (out : List ℕ) (e : E) (e' : E') → ReadsAt {T = T} {E = E} old target at out (Err e) new → ReadsAt {T = T'} {E = E'} old target at out (Err e') new
failed_as old new target at out e e' reads = record {
  names = reads.names;
  holds = reads.holds;
  phase = reads.phase;
  shows = λ steady state name holds sought. tt;
  sure = reads.sure;
  cause = reads.cause;
  disks = reads.disks;
  reached = reads.reached;
}

done_as : {T T' E E' : Type 0} (old new : StoreView) (target : Target) (at : ℕ) (out : List ℕ) (x : T) (x' : T') → ReadsAt {T = T} {E = E} old target at out (Ok x) new → ReadsAt {T = T'} {E = E'} old target at out (Ok x') new
done_as old new target at out x x' reads = record {
  names = reads.names;
  holds = reads.holds;
  phase = reads.phase;
  shows = reads.shows;
  sure = λ steady state holds. tt;
  cause = tt;
  disks = reads.disks;
  reached = reads.reached;
}

-- ---- runs

-- so many blocks are read
pub record ReadSoFar (old : StoreView) (target : Target) (at len done : ℕ) (blocks : Image) (new : StoreView) : Type 0 where
  pub within : done ≤ len
  pub out : List ℕ
  pub long : length out ≡ 512 * done
  pub are : blocks ≡ blocks_of out
  pub reads : ReadsAt {T = Unit {0}} {E = Unit {0}} old target at out (Ok tt) new

pub none_so_far : (store : StoreView) (target : Target) (at len : ℕ) (blocks : Image) → blocks ≡ [] → ReadSoFar store target at len 0 blocks store
none_so_far store target at len blocks none = record {
  within = omega arith;
  out = [];
  long = refl;
  are = none ∙ sym (nil_from_length (blocks_of []) (length-blocks_of []));
  reads = no_read store target at tt;
}

module _ (old mid new : StoreView) (target : Target) (at len done more : ℕ) (blocks : Image) (part : List ℕ) (sofar : ReadSoFar old target at len done blocks mid) (size : length part ≡ 512 * more) where
  whole : 512 * (length sofar.out / 512) ≡ length sofar.out
  whole = omega (arith, sofar.long)

  place : at + done ≡ at + length sofar.out / 512
  place = omega (arith, sofar.long)

  pub more_so_far : {T E : Type 0} (x : T) (blocks_new : Image) → done + more ≤ len → ReadsAt {T = T} {E = E} mid target (at + done) part (Ok x) new → blocks_new ≡ blocks ++ blocks_of part
      → ReadSoFar old target at len (done + more) blocks_new new
  more_so_far {T} {E} x blocks_new within reads are = record {
    within = within;
    out = sofar.out ++ part;
    long = omega (arith, sofar.long, size, length-append sofar.out part);
    are = are ∙ ap (λ (img : Image). img ++ blocks_of part) sofar.are ∙ sym (blocks_of-append sofar.out part done sofar.long);
    reads = reads_both old mid new target at sofar.out part tt (Ok tt) whole sofar.reads
        (subst (λ (n : ℕ). ReadsAt {T = Unit {0}} {E = Unit {0}} mid target n part (Ok tt) new) place (done_as mid new target (at + done) part x tt reads));
  }

  pub fails_in : {T T' E E' : Type 0} (e : E) (e' : E') (blocks_new : Image) → ReadsAt {T = T} {E = E} mid target (at + done) part (Err e) new → ReadsRuns {T = T'} {E = E'} old target at len blocks_new (Err e') new
  fails_in {T} {T'} {E} {E'} e e' blocks_new reads = record {
    out = sofar.out ++ part;
    reads = reads_both old mid new target at sofar.out part tt (Err e') whole sofar.reads
        (subst (λ (n : ℕ). ReadsAt {T = T'} {E = E'} mid target n part (Err e') new) place (failed_as mid new target (at + done) part e e' reads));
    long = tt;
    are = tt;
  }

-- all blocks are read
pub all_read : {T E : Type 0} (old new : StoreView) (target : Target) (at len done : ℕ) (blocks : Image) (x : T) → ReadSoFar old target at len done blocks new → len ≤ done → ReadsRuns {T = T} {E = E} old target at len blocks (Ok x) new
all_read old new target at len done blocks x sofar all = record {
  out = sofar.out;
  reads = done_as old new target at sofar.out tt x sofar.reads;
  long = omega (arith, sofar.long, sofar.within, all);
  are = sofar.are;
}
