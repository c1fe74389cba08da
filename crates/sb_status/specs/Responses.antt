-- Promise: the head of an answer.
use Rattle.std.specs.Prelude.{ℕ, List, ◌++◌, codes, decimal}
use Rattle.sb_status.specs.declared.response.ContentType.{ContentType}
use Rattle.sb_status.specs.declared.response.ContentType.TheVariants.{Page, Samples, Text}
use Rattle.sb_status.specs.declared.response.Status.{Status}
use Rattle.sb_status.specs.declared.response.Status.TheVariants.{Found, Accepted, Malformed, Closed, Foreign, NotFound, NotAllowed, NotPosted, Busy, TooLong, Failed}
use Rattle.sb_status.specs.declared.response.TheConstants.{ALWAYS}

abbrev pub status_text : Status → List ℕ
status_text Found = codes "200 OK"
status_text Accepted = codes "202 Accepted"
status_text Malformed = codes "400 Bad Request"
status_text Closed = codes "401 Unauthorized\r\nWWW-Authenticate: Basic realm=\"filgwesha\""
status_text Foreign = codes "403 Forbidden"
status_text NotFound = codes "404 Not Found"
status_text NotAllowed = codes "405 Method Not Allowed\r\nAllow: GET, HEAD"
status_text NotPosted = codes "405 Method Not Allowed\r\nAllow: POST"
status_text Busy = codes "409 Conflict"
status_text TooLong = codes "431 Request Header Fields Too Large"
status_text Failed = codes "500 Internal Server Error"

abbrev pub kind_text : ContentType → List ℕ
kind_text Page = codes "text/html; charset=utf-8"
kind_text Samples = codes "text/plain; version=0.0.4; charset=utf-8"
kind_text Text = codes "text/plain; charset=utf-8"

-- the first line, and the header that says what the body is
abbrev pub begin_text : Status → ContentType → List ℕ
begin_text s k = codes "HTTP/1.1 " ++ status_text s ++ codes "\r\nContent-Type: " ++ kind_text k

-- all lines before a body of that length
abbrev pub head_text : Status → ContentType → ℕ → List ℕ
head_text s k length = begin_text s k ++ codes "\r\nContent-Length: " ++ decimal length ++ ALWAYS.now
