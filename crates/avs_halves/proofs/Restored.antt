-- A half of whose sets the named ones have other images.
use Rattle.std.proofs.Common.{◌≡◌, ℕ, Bool, true, false, ◌||◌, cond, eqb, List, [], ◌∷◌, ◌∙◌, sym, refl, ap}
use Rattle.std.proofs.lemmas.Bool.{eqb-true, eq-eqb}
use Rattle.avs_seg.specs.Image.{Image}
use Rattle.avs_mirrors.specs.Accepts.{AreRestored, IsRestored}
use Rattle.avs_mirrors.specs.Due.{Keys}
use Rattle.avs_mirrors.specs.Entries.{Images}
use Rattle.avs_mirrors.specs.Half.{HalfState, with_change}
use Rattle.avs_halves.specs.Marks.{Mark, changed_all, named, restored_in}

image_one : (f : Images) (x : Image) (t k : ℕ) (a b : Bool) → (a ≡ true → t ≡ k) → cond b (f t) (cond a (f k) x) ≡ cond (a || b) (f t) x
image_one f x t k true true same = refl
image_one f x t k true false same = ap f (sym (same refl))
image_one f x t k false b same = refl

contents_one : (a b x : Bool) → (b || cond a true x) ≡ ((a || b) || x)
contents_one true true x = refl
contents_one true false x = refl
contents_one false b x = refl

kept_one : (a b x : Bool) → cond b false (cond a false x) ≡ cond (a || b) false x
kept_one true true x = refl
kept_one true false x = refl
kept_one false b x = refl

-- field by field
pub restored_is : (marks : List Mark) (h : HalfState) (images : Images)
    → changed_all h (restored_in marks images) ≡ record h {
      images = λ t. cond (named marks t) (images t) (h.images t);
      contents = λ t. named marks t || h.contents t;
      kept = λ t. cond (named marks t) false (h.kept t);
    }
restored_is [] h images = refl
restored_is (m ∷ ms) h images = restored_is ms (with_change h m.0 (images m.0)) images
    ∙ (λ i. record h {
      images = λ t. image_one images (h.images t) t m.0 (eqb t m.0) (named ms t) (eqb-true t m.0) i;
      contents = λ t. contents_one (eqb t m.0) (named ms t) (h.contents t) i;
      kept = λ t. kept_one (eqb t m.0) (named ms t) (h.kept t) i;
    })

on_left : (a b : Bool) → a ≡ true → (a || b) ≡ true
on_left a b on = rw on refl

on_right : (a b : Bool) → b ≡ true → (a || b) ≡ true
on_right true b on = refl
on_right false b on = on

-- each of them is inside its segments
pub are_restored : (marks : List Mark) (h : HalfState) (keys : Keys) (images : Images) → ((set : ℕ) → named marks set ≡ true → IsRestored h keys (set, images set)) → AreRestored h keys (restored_in marks images)
are_restored [] h keys images each = tt
are_restored (m ∷ ms) h keys images each =
    (each m.0 (on_left (eqb m.0 m.0) (named ms m.0) (eq-eqb m.0 m.0 refl)), are_restored ms h keys images (λ set on. each set (on_right (eqb set m.0) (named ms set) on)))
