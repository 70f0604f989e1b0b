use Rattle.std.proofs.Common.{sym, ◌∙◌, ap, subst, [], ◌∷◌, ◌++◌}
use Rattle.sk_table.specs.Table.{IsTable}
use Rattle.sk_table.proofs.Growth.{table_empty, table_one}
use Rattle.sk_table.proofs.text_table.open.Goals as goal

pub returns-clause-table : goal.returns-clause-table
returns-clause-table g c =
    subst (IsTable g.K.TextKey.text 1) (sym (c.in-Ok.ensures.items ∙ ap (λ l. l ++ c.new.result ∷ []) (table_empty g.K.TextKey.text c.args.buckets.now.items c.requires) ∙ ap (λ b. b ∷ []) c.new.ensures)) (table_one g.K.TextKey.text)
