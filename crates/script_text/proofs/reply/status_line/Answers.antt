use Rattle.std.proofs.Common.{◌≡◌, ◌∙◌, ◌∷◌, ◌++◌, [], ℕ, List, IfOk, codes, decimal, ap, subst}
use Rattle.script_text.specs.Said.{status_text}
use Rattle.script_text.proofs.SaidLemmas.{three_numbers}
use Rattle.script_text.proofs.reply.status_line.Goals as goal

pub returns : goal.returns
returns c =
    let assigned : List ℕ = codes "status assigned " ++ decimal c.args.assigned in
    let published : List ℕ = decimal c.args.published in
    let held : List ℕ = decimal c.args.held in
    let last = c.put_number.ensures.text ∙ ap (λ (l : List ℕ). (codes " held " ++ held) ++ l) c.end-line.ensures in
    let behind = c.put_number-2.ensures.text ∙ ap (λ (l : List ℕ). (codes " published " ++ published) ++ l) last in
    let whole : c.put_number-3.new.self ≡ status_text c.args.assigned c.args.published c.args.held ++ 10 ∷ [] =
    c.put_number-3.ensures.text ∙ ap (λ (l : List ℕ). assigned ++ l) behind ∙ three_numbers assigned (codes " published ") published (codes " held ") held (10 ∷ []) in
    subst (λ (l : List ℕ). IfOk c.to_vec.result (λ line. line.items ≡ l)) whole c.to_vec.ensures
