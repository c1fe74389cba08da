use Rattle.std.proofs.Common.{◌∙◌, ◌++◌, List, ap}
use Rattle.std.proofs.lemmas.Result.{IfOk-weaker}
use Rattle.sb_status.specs.Pages.{rendered}
use Rattle.sb_status.specs.TenantPages.{beginning_of}
use Rattle.sb_status.specs.declared.fragment.Fragment.{Fragment}
use Rattle.sb_status.specs.declared.text.Escaping.TheVariants.{Html}
use Rattle.sb_status.proofs.tenant.tenant_page.Goals as goal

-- the pieces of the rest stand behind the beginning
pub returns : goal.returns
returns c =
    let beginning = beginning_of c.args.view.now.numbers in
    let rest = c.write_rest.new.page.pieces.items in
    let front = c.in_ok-write_beginning.ensures ∙ ap (λ (pieces : List Fragment). pieces ++ beginning) c.new-page.ensures in
    let all = c.in_ok-append.ensures ∙ ap (λ (pieces : List Fragment). pieces ++ rest) front in
    IfOk-weaker c.render.result _ _ (λ page is. (rest, is ∙ ap (rendered Html) all)) c.render.ensures
