use Rattle.std.proofs.Common.{◌≡◌, ◌∙◌, true, Some, None, sym, ap, arith}
use Rattle.std.specs.List.{position}
use Rattle.std.specs.Option.{is_some}
use Rattle.std.specs.Str.{bytes_eq}
use Rattle.avs_model.specs.declared.answer.Refusal.TheVariants.{Limit}
use Rattle.avs_world.specs.Views.{names_of}
use Rattle.avs_world.proofs.Holding.{no_volume}
use Rattle.avs_world.proofs.Making.{volume_exists, volume_small, volume_large, volume_full, volume_passes, is_there, none_there}
use Rattle.avs_world.proofs.Standing.{up_holds}
use Rattle.avs_world.proofs.world.World.check_volume.Goals as goal

pub returns-then-is_some-clause-refused : goal.returns-then-is_some-clause-refused
returns-then-is_some-clause-refused g c steady s stands =
    let name = c.args.name.now in
    let self = c.args.self.now in
    let up = c.if-not-self.false in
    let holds = up_holds g.D.Disk.seen steady self s stands up in
    let there : is_some (position (bytes_eq name) (names_of self.shelf)) ≡ true = ap is_some (sym c.find.ensures.place) ∙ sym c.is_some.ensures ∙ c.if-is_some.true in
    volume_exists s name c.args.blocks (sym stands.up ∙ up) (is_there (names_of self.shelf) s.p holds.same_names name there)

pub returns-then-blocks-lt-LEAST_VOLUME-clause-refused : goal.returns-then-blocks-lt-LEAST_VOLUME-clause-refused
returns-then-blocks-lt-LEAST_VOLUME-clause-refused g c steady s stands =
    let name = c.args.name.now in
    let self = c.args.self.now in
    let up = c.if-not-self.false in
    let holds = up_holds g.D.Disk.seen steady self s stands up in
    let none : position (bytes_eq name) (names_of self.shelf) ≡ None = sym c.find.ensures.place ∙ none_there c.find.result (sym c.is_some.ensures ∙ c.if-is_some.false) in
    volume_small s name c.args.blocks (sym stands.up ∙ up) (ap is_some (no_volume (names_of self.shelf) s.p holds.same_names name none)) c.if-blocks-lt-LEAST_VOLUME.true

pub returns-then-blocks-gt-LARGEST_VOLUME-clause-refused : goal.returns-then-blocks-gt-LARGEST_VOLUME-clause-refused
returns-then-blocks-gt-LARGEST_VOLUME-clause-refused g c steady s stands =
    let name = c.args.name.now in
    let self = c.args.self.now in
    let up = c.if-not-self.false in
    let holds = up_holds g.D.Disk.seen steady self s stands up in
    let none : position (bytes_eq name) (names_of self.shelf) ≡ None = sym c.find.ensures.place ∙ none_there c.find.result (sym c.is_some.ensures ∙ c.if-is_some.false) in
    volume_large s name c.args.blocks (sym stands.up ∙ up) (ap is_some (no_volume (names_of self.shelf) s.p holds.same_names name none)) c.if-blocks-lt-LEAST_VOLUME.false c.if-blocks-gt-LARGEST_VOLUME.true
    ∙ ap (λ n. Some (Limit n)) (sym c.from.ensures)

pub returns-then-from-clause-refused : goal.returns-then-from-clause-refused
returns-then-from-clause-refused g c steady s stands =
    let name = c.args.name.now in
    let self = c.args.self.now in
    let up = c.if-not-self.false in
    let holds = up_holds g.D.Disk.seen steady self s stands up in
    let none : position (bytes_eq name) (names_of self.shelf) ≡ None = sym c.find.ensures.place ∙ none_there c.find.result (sym c.is_some.ensures ∙ c.if-is_some.false) in
    volume_full s name c.args.blocks (sym stands.up ∙ up) (ap is_some (no_volume (names_of self.shelf) s.p holds.same_names name none)) c.if-blocks-lt-LEAST_VOLUME.false c.if-blocks-gt-LARGEST_VOLUME.false
    (omega (arith, holds.same_blocks, c.blocks-2.ensures, c.from-2.ensures, c.from-3.ensures, c.from-4.ensures, c.if-from.true)) ∙ ap (λ n. Some (Limit n)) (sym c.from-then-from.ensures)

pub returns-clause-passes : goal.returns-clause-passes
returns-clause-passes g c steady s stands =
    let name = c.args.name.now in
    let self = c.args.self.now in
    let up = c.if-not-self.false in
    let holds = up_holds g.D.Disk.seen steady self s stands up in
    let none : position (bytes_eq name) (names_of self.shelf) ≡ None = sym c.find.ensures.place ∙ none_there c.find.result (sym c.is_some.ensures ∙ c.if-is_some.false) in
    volume_passes s name c.args.blocks (sym stands.up ∙ up) (ap is_some (no_volume (names_of self.shelf) s.p holds.same_names name none)) c.if-blocks-lt-LEAST_VOLUME.false c.if-blocks-gt-LARGEST_VOLUME.false
    (omega (arith, holds.same_blocks, c.blocks-2.ensures, c.from-2.ensures, c.from-3.ensures, c.from-4.ensures, c.if-from.false))
