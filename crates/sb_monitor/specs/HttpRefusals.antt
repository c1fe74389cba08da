-- Promise: how a request is refused, and which one doesn't fit its page.
use Rattle.std.specs.Prelude.{◌||◌, ℕ, bytes_eq, codes, if◌then◌else◌, List, Option, None, Some}
use Rattle.sb_status.specs.declared.request.Request.{Request}
use Rattle.sb_status.specs.declared.response.Status.{Status}
use Rattle.sb_status.specs.declared.response.Status.TheVariants as status
use Rattle.sb_status.specs.declared.route.Route.TheVariants as route
use Rattle.sb_monitor.specs.declared.target.Target.{Target}
use Rattle.sb_monitor.specs.declared.target.Target.TheVariants as target
use Rattle.sb_monitor.specs.declared.http_outcome.HttpRefusal.{HttpRefusal}
use Rattle.sb_monitor.specs.declared.http_outcome.HttpRefusal.TheVariants.{BadRequest, Foreign, KeyWanted, NoPage, NoScript, NoSession, NoStop, NoTenant, NotGot, NotPosted, OtherName, TenantBusy, TooLong, WorkerBusy}

abbrev pub status_of : HttpRefusal → Status
status_of BadRequest = status.Malformed
status_of TooLong = status.TooLong
status_of NotPosted = status.NotPosted
status_of NotGot = status.NotAllowed
status_of Foreign = status.Foreign
status_of OtherName = status.Foreign
status_of KeyWanted = status.Closed
status_of NoPage = status.NotFound
status_of NoTenant = status.NotFound
status_of NoSession = status.NotFound
status_of TenantBusy = status.Busy
status_of WorkerBusy = status.Busy
status_of NoStop = status.Failed
status_of NoScript = status.Failed

abbrev pub words_of : HttpRefusal → List ℕ
words_of BadRequest = codes "bad request\n"
words_of TooLong = codes "too long\n"
words_of NotPosted = codes "only POST\n"
words_of NotGot = codes "only GET and HEAD\n"
words_of Foreign = codes "not from a page of another site\n"
words_of OtherName = codes "ask by 127.0.0.1, [::1] or localhost\n"
words_of KeyWanted = codes "a key is wanted\n"
words_of NoPage = codes "not found\n"
words_of NoTenant = codes "no such tenant\n"
words_of NoSession = codes "no such session\n"
words_of TenantBusy = codes "the tenant is busy\n"
words_of WorkerBusy = codes "the worker is busy\n"
words_of NoStop = codes "it can't be stopped\n"
words_of NoScript = codes "no script\n"

-- a page is got
abbrev pub unless_got : Request → Option HttpRefusal
unless_got r = if bytes_eq r.method.now (codes "GET") || bytes_eq r.method.now (codes "HEAD") then None else Some NotGot

-- an end and a renewal are posted
abbrev pub unless_posted : Request → Option HttpRefusal
unless_posted r = if bytes_eq r.method.now (codes "POST") then None else Some NotPosted

-- why a request doesn't fit its target, if it doesn't
abbrev pub misfit_of : Target → Request → Option HttpRefusal
misfit_of target.Stop r = unless_posted r
misfit_of target.Ready r = unless_got r
misfit_of (target.Page (route.End e)) r = unless_posted r
misfit_of (target.Page (route.Renew n)) r = unless_posted r
misfit_of (target.Page page) r = unless_got r
