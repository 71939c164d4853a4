-- Changes of bits one after another.
use Rattle.std.proofs.Common.{◌≡◌, ℕ, Bool, true, false, ◌||◌, cond, List, Result, Ok, Err, ◌∙◌, refl, ap, subst}
use Rattle.std.proofs.Math.Path.{fun_ext}
use Rattle.avs_dev.specs.Seen.{IsTold}
use Rattle.avs_dev.specs.Devices.{OneFails}
use Rattle.avs_dev.proofs.Going.{lasts_same, lasts_then, spared_same, spared_then, fails_then}
use Rattle.avs_bits.specs.BitSet.{set_of, IsInStep, HoldsPart}
use Rattle.avs_bits.proofs.Parts.{part_same, part_then, part_wider, held_then}
use Rattle.avs_mirrors.specs.Due.{Segments, Keys}
use Rattle.avs_halves.specs.SetBits.{SetBits, set_at, disk_at}
use Rattle.avs_halves.specs.Changing.{PartMade, AllMade, ChangesSets}

left_on : (a b : Bool) → a ≡ true → (a || b) ≡ true
left_on a b on = rw on refl

right_on : (a b : Bool) → b ≡ true → (a || b) ≡ true
right_on true b on = refl
right_on false b on = on

either_then : (a b on old mid new : Bool) → mid ≡ cond a on old → new ≡ cond b on mid → new ≡ cond (a || b) on old
either_then true true on old mid new first second = second
either_then true false on old mid new first second = second ∙ first
either_then false true on old mid new first second = second
either_then false false on old mid new first second = second ∙ first

-- ---- one set

module _ (keys more : Segments) (on : Bool) where
  holds_wider : (old : ℕ → Bool) (img : _) (segs : ℕ) → ((p : ℕ) → keys p ≡ true → more p ≡ true) → HoldsPart keys on old img segs → HoldsPart more on old img segs
  holds_wider old img segs wider h = record { set = h.set; part = part_wider keys more on old h.set wider h.part; held = h.held }

  pub made_wider : (old new : SetBits) → ((p : ℕ) → keys p ≡ true → more p ≡ true) → PartMade keys on old new → PartMade more on old new
  made_wider old new wider p = record {
    rest = p.rest;
    lasts = p.lasts;
    label = p.label;
    memory = part_wider keys more on (set_of old.bits) (set_of new.bits) wider p.memory;
    disk = λ told step. holds_wider (set_of old.bits) new.bits.disk.image old.bits.segs wider (p.disk told step);
  }

-- a part behind a change that was done
part_behind : (keys : Segments) (on : Bool) (a b c : SetBits) → PartMade keys on a b → (IsTold a.bits.disk → IsInStep a.bits → IsInStep b.bits) → PartMade keys on b c → PartMade keys on a c
part_behind keys on a b c p step q = record {
  rest = q.rest ∙ ap (λ (s : SetBits). record s { bits = record s.bits { disk = c.bits.disk; bytes = c.bits.bytes } }) p.rest;
  lasts = lasts_then a.bits.disk b.bits.disk c.bits.disk p.lasts q.lasts;
  label = λ told. q.label (p.lasts.told told) ∙ p.label told;
  memory = part_then keys on (set_of a.bits) (set_of b.bits) (set_of c.bits) p.memory q.memory;
  disk = λ told in_step. subst (λ (n : ℕ). HoldsPart keys on (set_of a.bits) c.bits.disk.image n) (ap (λ (s : SetBits). s.bits.segs) p.rest)
      (held_then keys on (set_of a.bits) (set_of b.bits) c.bits.disk.image b.bits.segs p.memory (q.disk (p.lasts.told told) (step told in_step)));
}

module _ (first second : Segments) (on : Bool) (a b c : SetBits) where
  pub part_both : PartMade first on a b → (IsTold a.bits.disk → IsInStep a.bits → IsInStep b.bits) → PartMade second on b c → PartMade (λ s. first s || second s) on a c
  part_both p step q = part_behind (λ s. first s || second s) on a b c
      (made_wider first (λ s. first s || second s) on a b (λ s is. left_on (first s) (second s) is) p)
      step
      (made_wider second (λ s. first s || second s) on b c (λ s is. right_on (first s) (second s) is) q)

  pub all_both : PartMade first on a b → AllMade first on a b → AllMade second on b c → AllMade (λ s. first s || second s) on a c
  all_both p all more = record {
    spared = spared_then a.bits.disk b.bits.disk c.bits.disk all.spared more.spared;
    memory = λ s. either_then (first s) (second s) on (set_of a.bits s) (set_of b.bits s) (set_of c.bits s) (all.memory s) (more.memory s);
    step = λ told step. more.step (p.lasts.told told) (all.step told step);
  }

-- ---- all sets

pub changes_none : {T E : Type 0} (on : Bool) (sets : List SetBits) (x : T) → ChangesSets {E = E} (λ set seg. false) on sets (Ok x) sets
changes_none on sets x = record {
  count = refl;
  part = λ set. let s = set_at sets set in record {
    rest = refl;
    lasts = lasts_same s.bits.disk;
    label = λ told. refl;
    memory = part_same (λ seg. false) on (set_of s.bits);
    disk = λ told step. record { set = set_of s.bits; part = part_same (λ seg. false) on (set_of s.bits); held = step };
  };
  done = λ set. record { spared = spared_same (disk_at sets set); memory = λ s. refl; step = λ told step. step };
  failed = tt;
}

pub changes_same : {T E : Type 0} (keys more : Keys) (on : Bool) (a b : List SetBits) (r : Result T E) → ((set seg : ℕ) → keys set seg ≡ more set seg) → ChangesSets keys on a r b → ChangesSets more on a r b
changes_same keys more on a b r same c = subst (λ (k : Keys). ChangesSets k on a r b) (fun_ext (λ set. fun_ext (λ seg. same set seg))) c

pub changes_ok : {T E T' E' : Type 0} (keys : Keys) (on : Bool) (a b : List SetBits) (x : T) (y : T') → ChangesSets {E = E} keys on a (Ok x) b → ChangesSets {E = E'} keys on a (Ok y) b
changes_ok keys on a b x y c = record { count = c.count; part = c.part; done = c.done; failed = tt }

pub changes_err : {T E T' E' : Type 0} (keys : Keys) (on : Bool) (a b : List SetBits) (e : E) (e' : E') → ChangesSets {T = T} keys on a (Err e) b → ChangesSets {T = T'} keys on a (Err e') b
changes_err keys on a b e e' c = record { count = c.count; part = c.part; done = tt; failed = c.failed }

module _ {T' E' : Type 0} (first second : Keys) (on : Bool) (a b c : List SetBits) (x : T') (p : ChangesSets {E = E'} first on a (Ok x) b) where
  parts_both : {T E : Type 0} (r : Result T E) → ChangesSets second on b r c → (set : ℕ) → PartMade (λ s. first set s || second set s) on (set_at a set) (set_at c set)
  parts_both r q set = part_both (first set) (second set) on (set_at a set) (set_at b set) (set_at c set) (p.part set) (λ told step. (p.done set).step told step) (q.part set)

  fails_both : OneFails (disk_at b) (disk_at c) → OneFails (disk_at a) (disk_at c)
  fails_both f = record {
    name = f.name;
    failed = fails_then (disk_at a f.name) (disk_at b f.name) (disk_at c f.name) (p.part f.name).lasts.steady (p.done f.name).spared f.failed;
    others = λ other ne. spared_then (disk_at a other) (disk_at b other) (disk_at c other) (p.done other).spared (f.others other ne);
  }

  pub changes_then : {T E : Type 0} (r : Result T E) → ChangesSets second on b r c → ChangesSets (λ set seg. first set seg || second set seg) on a r c
  changes_then (Ok y) q = record {
    count = q.count ∙ p.count;
    part = parts_both (Ok y) q;
    done = λ set. all_both (first set) (second set) on (set_at a set) (set_at b set) (set_at c set) (p.part set) (p.done set) (q.done set);
    failed = tt;
  }
  changes_then (Err e) q = record {
    count = q.count ∙ p.count;
    part = parts_both (Err e) q;
    done = tt;
    failed = fails_both q.failed;
  }

-- what stopped in some segments stopped in more
pub changes_wider : {T E : Type 0} (keys more : Keys) (on : Bool) (a b : List SetBits) (e : E) → ((set seg : ℕ) → keys set seg ≡ true → more set seg ≡ true) → ChangesSets {T = T} keys on a (Err e) b → ChangesSets {T = T} more on a (Err e) b
changes_wider keys more on a b e wider c = record {
  count = c.count;
  part = λ set. made_wider (keys set) (more set) on (set_at a set) (set_at b set) (wider set) (c.part set);
  done = tt;
  failed = c.failed;
}
