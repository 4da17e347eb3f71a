-- `level` answers the first level that is fast enough, or past the last: that is the lowest. Assumes nothing.
use Rattle.std.proofs.Common.{suc, ◌≡◌, ◌∙◌, ap, sym, cond, leb, true, false, refl, rules, add-one}
use Rattle.std.proofs.lemmas.Iterator.{index_from_first}
use Rattle.model.specs.Level.{lowest}
use Rattle.table.proofs.Table.level.Goals as goal

pub returns : goal.returns
unfolding lowest
returns c =
    let w = c.args.load.0 in
    c.unwrap_or.ensures
    ∙ sym
    (index_from_first (λ fs. lowest fs w) (λ f. leb w f ≡ true) (λ f. leb w f ≡ false) refl
    (λ f fs fast. ap (λ b. cond b 0 (suc (lowest fs w))) fast)
    (λ f fs slow. ap (λ b. cond b 0 (suc (lowest fs w))) slow ∙ sym (add-one _)) c.args.self.now.frequencies.now c.position.result (search rules))
