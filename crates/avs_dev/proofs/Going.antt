-- A disk, or several, through one call after another.
use Rattle.std.proofs.Common.{◌≡◌, ◌≢◌, ◌⊎◌, inl, inr, ℕ, ◌<◌, Bool, true, false, cond, eqb, List, [], length, Result, Ok, Err, IsErr, refl, sym, ◌∙◌, ap, subst, arith}
use Rattle.std.proofs.lemmas.Bool.{cases_Bool, eqb-true, eq-eqb}
use Rattle.avs_seg.specs.Causes.{Rose}
use Rattle.avs_dev.specs.Seen.{Seen, IsTold, shown, Writes, Lasts, IsSpared, Fails, GoesOn, CountsTear}
use Rattle.avs_dev.specs.Devices.{AllGoOn}

-- ---- what a disk shows

pub shown_told : (d : Seen) → IsTold d → shown d ≡ d.image
shown_told d told = ap (λ (b : Bool). cond b d.image []) (eq-eqb (length d.image) d.size told)

-- a disk with blocks shows as many only where it tells them
pub told_shown : (d : Seen) → 0 < d.size → length (shown d) ≡ d.size → IsTold d
told_shown d some is = elim (cases_Bool (eqb (length d.image) d.size)) [
  | inl same ↦ eqb-true (length d.image) d.size same
  | inr other ↦ absurd (none d some (subst (λ (b : Bool). length (cond b d.image []) ≡ d.size) other is))
]
  where
    none : (d : Seen) → 0 < d.size → 0 ≡ d.size → ⊥
    none d some is = omega (arith, some, is)

-- ---- nothing is called

pub lasts_same : (d : Seen) → Lasts d d
lasts_same d = record { size = refl; steady = refl; arms = refl; told = λ told. told; faults = omega arith; written = omega arith }

pub spared_same : (d : Seen) → IsSpared d d
spared_same d = record { faults = refl; armed = refl }

pub spared_is : {old new : Seen} → new ≡ old → IsSpared old new
spared_is is = record { faults = ap (λ (d : Seen). d.faults) is; armed = ap (λ (d : Seen). d.armed) is }

pub goes_same : {T E : Type 0} (d : Seen) (x : T) → GoesOn {E = E} d (Ok x) d
goes_same d x = record { lasts = lasts_same d; done = spared_same d; failed = tt }

-- ---- one call after another

pub lasts_then : (old mid new : Seen) → Lasts old mid → Lasts mid new → Lasts old new
lasts_then old mid new a b = record {
  size = b.size ∙ a.size;
  steady = b.steady ∙ a.steady;
  arms = b.arms ∙ a.arms;
  told = λ told. b.told (a.told told);
  faults = omega (arith, a.faults, b.faults);
  written = omega (arith, a.written, b.written);
}

pub spared_then : (old mid new : Seen) → IsSpared old mid → IsSpared mid new → IsSpared old new
spared_then old mid new a b = record { faults = b.faults ∙ a.faults; armed = b.armed ∙ a.armed }

pub fails_then : (old mid new : Seen) → mid.steady ≡ old.steady → IsSpared old mid → Fails mid new → Fails old new
fails_then old mid new steady a b = record {
  rose = subst (λ (n : ℕ). Rose n new.faults) a.faults b.rose;
  spent = λ sure. let used = b.spent (steady ∙ sure) in record { was_armed = sym a.armed ∙ used.was_armed; is_used = used.is_used };
}

pub goes_then : {T E T' E' : Type 0} (old mid new : Seen) (x : T') (r : Result T E) → GoesOn {E = E'} old (Ok x) mid → GoesOn mid r new → GoesOn old r new
goes_then old mid new x (Ok y) a b = record { lasts = lasts_then old mid new a.lasts b.lasts; done = spared_then old mid new a.done b.done; failed = tt }
goes_then old mid new x (Err e) a b = record { lasts = lasts_then old mid new a.lasts b.lasts; done = tt; failed = fails_then old mid new a.lasts.steady a.done b.failed }

-- the same whatever is answered beside
pub goes_ok : {T E T' E' : Type 0} (old new : Seen) (x : T) (y : T') → GoesOn {E = E} old (Ok x) new → GoesOn {E = E'} old (Ok y) new
goes_ok old new x y a = record { lasts = a.lasts; done = a.done; failed = tt }

pub goes_err : {T E T' E' : Type 0} (old new : Seen) (e : E) (e' : E') → GoesOn {T = T} old (Err e) new → GoesOn {T = T'} old (Err e') new
goes_err old new e e' a = record { lasts = a.lasts; done = tt; failed = a.failed }

-- at an exit by an error
pub goes_failed : {T E : Type 0} (old new : Seen) (r : Result T E) → IsErr r → Lasts old new → Fails old new → GoesOn old r new
goes_failed old new (Ok x) is lasts fails = absurd (never is)
  where
    never : false ≡ true → ⊥
    never is = cc
goes_failed old new (Err e) is lasts fails = record { lasts = lasts; done = tt; failed = fails }

pub goes_stops : {T E T' E' T'' E'' : Type 0} (old mid new : Seen) (x : T') (e : E'') (r : Result T E) → IsErr r → GoesOn {E = E'} old (Ok x) mid → GoesOn {T = T''} mid (Err e) new → GoesOn old r new
goes_stops old mid new x e r is a b = goes_failed old new r is (lasts_then old mid new a.lasts b.lasts) (fails_then old mid new a.lasts.steady a.done b.failed)

pub tear_err : {T E T' E' : Type 0} (old new : Seen) (e : E) (e' : E') → CountsTear {T = T} old (Err e) new → CountsTear {T = T'} old (Err e') new
tear_err old new e e' a = record { done = tt; failed = a.failed }

pub writes_ok : {T E T' E' : Type 0} (old new : Seen) (at : ℕ) (bytes : List ℕ) (x : T) (y : T') → Writes {E = E} old at bytes (Ok x) new → Writes {E = E'} old at bytes (Ok y) new
writes_ok old new at bytes x y w = record {
  size = w.size;
  steady = w.steady;
  cause = record { later = w.cause.later; failed = tt };
  done = w.done;
  failed = λ told. tt;
  within = w.within;
  told = w.told;
  tells = w.tells;
  counted = w.counted;
  uncounted = tt;
  still_armed = w.still_armed;
  spent = λ steady. tt;
  goes = goes_ok old new x y w.goes;
  tear = record { done = w.tear.done; failed = λ steady. tt };
}

pub writes_err : {T E T' E' : Type 0} (old new : Seen) (at : ℕ) (bytes : List ℕ) (e : E) (e' : E') → Writes {T = T} old at bytes (Err e) new → Writes {T = T'} old at bytes (Err e') new
writes_err old new at bytes e e' w = record {
  size = w.size;
  steady = w.steady;
  cause = record { later = w.cause.later; failed = w.cause.failed };
  done = λ told. tt;
  failed = w.failed;
  within = w.within;
  told = w.told;
  tells = w.tells;
  counted = tt;
  uncounted = w.uncounted;
  still_armed = tt;
  spent = w.spent;
  goes = goes_err old new e e' w.goes;
  tear = tear_err old new e e' w.tear;
}

-- ---- a disk among others

module _ {N : Type 0} (old new : N → Seen) (name : N) (cases : (other : N) → (other ≡ name) ⊎ (other ≢ name)) (same : (other : N) → other ≢ name → new other ≡ old other) where
  each : (P : Seen → Seen → Type 0) → ((d : Seen) → P d d) → P (old name) (new name) → (other : N) → P (old other) (new other)
  each P none here other = elim (cases other) [
    | inl is ↦ subst (λ (k : N). P (old k) (new k)) (sym is) here
    | inr apart ↦ subst (λ (d : Seen). P (old other) d) (sym (same other apart)) (none (old other))
  ]

  pub all_go : {T E : Type 0} (r : Result T E) → GoesOn (old name) r (new name) → AllGoOn old r new
  all_go (Ok x) a = record {
    lasts = each Lasts lasts_same a.lasts;
    done = each IsSpared spared_same a.done;
    failed = tt;
  }
  all_go (Err e) a = record {
    lasts = each Lasts lasts_same a.lasts;
    done = tt;
    failed = record {
      name = name;
      failed = a.failed;
      others = λ other apart. subst (λ (d : Seen). IsSpared (old other) d) (sym (same other apart)) (spared_same (old other));
    };
  }

pub all_same : {N T E : Type 0} (disks : N → Seen) (x : T) → AllGoOn {E = E} disks (Ok x) disks
all_same disks x = record { lasts = λ name. lasts_same (disks name); done = λ name. spared_same (disks name); failed = tt }

pub all_then : {N T E T' E' : Type 0} (old mid new : N → Seen) (x : T') (r : Result T E) → AllGoOn {E = E'} old (Ok x) mid → AllGoOn mid r new → AllGoOn old r new
all_then old mid new x (Ok y) a b = record {
  lasts = λ name. lasts_then (old name) (mid name) (new name) (a.lasts name) (b.lasts name);
  done = λ name. spared_then (old name) (mid name) (new name) (a.done name) (b.done name);
  failed = tt;
}
all_then old mid new x (Err e) a b = record {
  lasts = λ name. lasts_then (old name) (mid name) (new name) (a.lasts name) (b.lasts name);
  done = tt;
  failed = record {
    name = b.failed.name;
    failed = fails_then (old b.failed.name) (mid b.failed.name) (new b.failed.name) (a.lasts b.failed.name).steady (a.done b.failed.name) b.failed.failed;
    others = λ other apart. spared_then (old other) (mid other) (new other) (a.done other) (b.failed.others other apart);
  };
}

-- the same whatever is answered beside
pub all_err : {N T E T' E' : Type 0} (old new : N → Seen) (e : E) (e' : E') → AllGoOn {T = T} old (Err e) new → AllGoOn {T = T'} old (Err e') new
all_err old new e e' a = record { lasts = a.lasts; done = tt; failed = a.failed }
