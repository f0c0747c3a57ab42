-- A core over what is made well formed: FROM first, and then its clauses.
use Rattle.std.specs.Prelude.{◌≡◌, ℕ, Bool, true, false, cond, List, [], Option}
use Rattle.std.proofs.Common.{refl, ap, sym, ◌∙◌, subst, true≢false}
use Rattle.std.specs.List.{AllByRecursion as Every}
use Rattle.std.specs.Option.{option_map_or}
use Rattle.perm_values.specs.declared.kind.Kind.{Kind}
use Rattle.perm_values.proofs.Lists.{back-none}
use Rattle.bag_algebra.specs.Kinds.{kinds_of}
use Rattle.bag_algebra.specs.WellFormed.{WellFormed}
use Rattle.sql_tree.specs.declared.name.ColRef.{ColRef}
use Rattle.name_meaning.specs.Cores.{core_over, core_unlooked, core_seen, word_breaks}
use Rattle.name_meaning.specs.Froms.{FromMeant}
use Rattle.name_meaning.specs.Items.{SelectPart}
use Rattle.name_meaning.specs.Meanings.{Part, Around, QueryMeant, is_whole}
use Rattle.name_meaning.specs.Scopes.{ScopeItem, scope_of}
use Rattle.name_meaning.specs.laws.Standing.{HoldsScope, RowsHold}
use Rattle.name_meaning.proofs.Arms.{GoodOptional}
use Rattle.name_meaning.proofs.Cores.{formed-clauses}
use Rattle.name_meaning.proofs.Froms.{FormedFrom, GoodFrom, scope-holds}
use Rattle.name_meaning.proofs.Items.{GoodItem}
use Rattle.name_meaning.proofs.Every.{whole-none, none-whole}

abbrev pub FormedQuery : Around → QueryMeant → Type 0
FormedQuery around m = m.breaks ≡ [] → (rows : List (List Kind)) → RowsHold around.outer rows → (wanted : List Kind) → WellFormed rows (m.make wanted)

pub formed-core_seen : (around : Around) (word : Option ℕ) (input : FromMeant) (has_from is_distinct : Bool) (items : List SelectPart) (condition : Option Part)
    (groups : List ColRef) (having : Option Part) → GoodFrom around.outer input → Every GoodItem items → GoodOptional condition → GoodOptional having
    → FormedQuery around (core_seen around word input has_from is_distinct items condition groups having)
formed-core_seen around word input has_from is_distinct items condition groups having from good good_condition good_having =
    chosen (is_whole input.breaks) refl where
      chosen : (b : Bool) → is_whole input.breaks ≡ b → FormedQuery around (cond b
          (core_over around.outer (word_breaks around word) input has_from is_distinct items condition groups having
          (option_map_or (λ known. known) input.items []))
          (core_unlooked (word_breaks around word) input))
      chosen true e = λ whole rows hold wanted.
          let f : FormedFrom around.outer input = from (whole-none input.breaks e) in
          let are : option_map_or (λ known. known) input.items [] ≡ f.items =
          ap (λ (known : Option (List ScopeItem)). option_map_or (λ (items : List ScopeItem). items) known []) f.known in
          formed-clauses around.outer rows (option_map_or (λ known. known) input.items []) input
          (record {
            around = hold;
            formed = f.formed rows hold;
            holds = subst (λ items. HoldsScope (scope_of items) (kinds_of input.query)) (sym are) (scope-holds f.items _ f.kinds);
          })
          has_from is_distinct items good condition good_condition groups wanted having good_having
          (back-none (word_breaks around word) _ whole)
      chosen false e = λ whole rows hold wanted.
          absurd (true≢false (sym (none-whole input.breaks (back-none (word_breaks around word) input.breaks whole)) ∙ e))
