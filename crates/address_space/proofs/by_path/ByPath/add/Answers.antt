use Rattle.std.proofs.Common.{Some, ap, sym, ◌∙◌, cond}
use Rattle.std.specs.Option.{is_some}
use Rattle.std.specs.Str.{bytes_eq}
use Rattle.std.proofs.lemmas.Map.Text.{btree_map_updates_str}
use Rattle.address_space.specs.PathWords.{number_in}
use Rattle.address_space.proofs.Naming.{had, has_now}
use Rattle.address_space.proofs.by_path.ByPath.add.Goals as goal

pub returns-then-contains_key-clause-ok : goal.returns-then-contains_key-clause-ok
returns-then-contains_key-clause-ok c = λ all one path number are.
    had all one c.args.number number c.args.self.now
    (sym c.if-contains_key.true ∙ c.contains_key.ensures ∙ ap (λ n. is_some (number_in c.args.self.now n)) (sym path)) are

pub returns-clause-ok : goal.returns-clause-ok
returns-clause-ok c = λ all one path number are.
    has_now all one c.args.number number c.args.self.now (record { numbers = c.insert.new.self })
    (sym c.if-contains_key.false ∙ c.contains_key.ensures ∙ ap (λ n. is_some (number_in c.args.self.now n)) (sym path))
    (λ name. btree_map_updates_str c.args.path.now c.args.self.now.numbers c.insert.new.self _ c.in_ok-insert.ensures.updates name
    ∙ ap (λ n. cond (bytes_eq n name) (Some c.args.number) (number_in c.args.self.now name)) (sym path))
    are
