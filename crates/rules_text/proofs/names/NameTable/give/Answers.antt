use Rattle.std.proofs.Common.{◌≡◌, ℕ, List, Some, cond, length, refl, ap, ◌∙◌}
use Rattle.std.specs.Str.{bytes_eq}
use Rattle.rules_text.specs.inner.SeenNameTable.{name_index}
use Rattle.rules_text.proofs.NameTables.{found_with, index_updated}
use Rattle.rules_text.proofs.names.NameTable.give.Goals as goal

pub returns-clause-found : goal.returns-clause-found
returns-clause-found c =
    let table = c.args.self.now in
    let same : c.in_ok-letters.letters.items ≡ c.args.name.letters.items = c.in_ok-letters.ensures.items_if_clones_equal (λ x y e. e) ∙ c.as_slice.ensures.value in
    let place : c.len-place.result ≡ length table.given.items = c.len-place.ensures ∙ table.given.ok.0 in
    found_with table _ c.args.name c.requires.found c.requires.new c.in_ok-push.ensures.items
    (λ other.
    index_updated table.places c.insert.new.self c.in_ok-letters.letters.items (Some c.len-place.result) c.in_ok-_before.ensures.updates other
    ∙ ap (λ (l : List ℕ). cond (bytes_eq l other) (Some c.len-place.result) (name_index table other)) same
    ∙ ap (λ (p : ℕ). cond (bytes_eq c.args.name.letters.items other) (Some p) (name_index table other)) place)
    refl
