-- What a call made of a set, told by another type of faults.
use Rattle.std.proofs.Common.{◌≡◌, ℕ, Result, Ok, Err, IsErr, false, true, subst}
use Rattle.avs_dev.proofs.Going.{all_err}
use Rattle.avs_held.specs.Rooms.{OnDisks}
use Rattle.avs_held.specs.Calls.{spots_of, SavesChunks}

-- chunks that are saved
module _ (old new : OnDisks) (first end : ℕ) {T E E' : Type 0} where
  pub saves_fail : (q : Result T E) (e : E) → q ≡ Err e → (r : Result T E') → IsErr r → SavesChunks old first end q new → SavesChunks old first end r new
  saves_fail q e is (Ok x) failed p = absurd (never failed)
    where
      never : false ≡ true → ⊥
      never no_way = cc
  saves_fail q e is (Err e') failed p = go (subst (λ (r : Result T E). SavesChunks old first end r new) is p)
    where
      go : SavesChunks {T = T} old first end (Err e) new → SavesChunks {T = T} old first end (Err e') new
      go p = record {
        step = λ owned says. let st = p.step owned says in record {
          keeps = record {
            same = st.keeps.same;
            live_b = st.keeps.live_b;
            disks = all_err (spots_of old) (spots_of new) e e' st.keeps.disks;
            known = λ kn. tt;
            read = st.keeps.read;
          };
          shadow = st.shadow;
          done = λ kn. tt;
          stopped = st.stopped;
        };
        keeps = p.keeps;
        memory = tt;
      }

  pub saves_done : (q : Result T E) (x : T) → q ≡ Ok x → SavesChunks old first end q new → SavesChunks {E = E'} old first end (Ok x) new
  saves_done q x is p = go (subst (λ (r : Result T E). SavesChunks old first end r new) is p)
    where
      go : SavesChunks {E = E} old first end (Ok x) new → SavesChunks {E = E'} old first end (Ok x) new
      go p = record {
        step = λ owned says. let st = p.step owned says in record {
          keeps = record {
            same = st.keeps.same;
            live_b = st.keeps.live_b;
            disks = record { lasts = st.keeps.disks.lasts; done = st.keeps.disks.done; failed = tt };
            known = st.keeps.known;
            read = st.keeps.read;
          };
          shadow = st.shadow;
          done = st.done;
          stopped = λ kn. tt;
        };
        keeps = p.keeps;
        memory = p.memory;
      }
