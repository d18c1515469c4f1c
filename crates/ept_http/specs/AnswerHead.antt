-- The head of a response (RFC 9112, sections 4 to 6): a status line, its fields, and an empty line.
use Rattle.std.specs.Prelude.{ℕ, List, [], ◌∷◌, ◌++◌, Bool, ◌==◌, if◌then◌else◌, IsTrue, ⊤, codes, decimal}
use Rattle.std.specs.List.{list_any}
use Rattle.ept_http.specs.declared.answer.HeadKind.{HeadKind}
use Rattle.ept_http.specs.declared.answer.HeadKind.TheVariants.{File, Query, Refusal}

-- the phrase of a status (RFC 9110, section 15; RFC 6585 for 431; RFC 4918 for 507)
abbrev pub phrase_of : ℕ → List ℕ
phrase_of status =
    if status == 200 then codes "OK"
    else if status == 400 then codes "Bad Request"
    else if status == 404 then codes "Not Found"
    else if status == 405 then codes "Method Not Allowed"
    else if status == 431 then codes "Request Header Fields Too Large"
    else if status == 503 then codes "Service Unavailable"
    else if status == 505 then codes "HTTP Version Not Supported"
    else if status == 507 then codes "Insufficient Storage"
    else []

-- the statuses of a refusal
abbrev pub is_refusal : ℕ → Bool
is_refusal status =
    list_any (λ known. known == status) (400 ∷ 404 ∷ 405 ∷ 431 ∷ 503 ∷ 505 ∷ 507 ∷ [])

-- a refusal has one of these
abbrev pub HasStatus : HeadKind → Type 0
HasStatus (File json len last) = ⊤
HasStatus (Query last) = ⊤
HasStatus (Refusal status last) = IsTrue (is_refusal status)

abbrev pub status_of : HeadKind → ℕ
status_of (File json len last) = 200
status_of (Query last) = 200
status_of (Refusal status last) = status

abbrev pub ends : HeadKind → Bool
ends (File json len last) = last
ends (Query last) = last
ends (Refusal status last) = last

-- a line of the head
abbrev pub line : List ℕ → List ℕ
line text = text ++ codes "\r\n"

unfoldable pub status_line : ℕ → List ℕ
status_line status = line (codes "HTTP/1.1 " ++ decimal status ++ codes " " ++ phrase_of status)

-- the allowed methods, for status 405
abbrev pub allow_line : ℕ → List ℕ
allow_line status = if status == 405 then line (codes "Allow: GET") else []

-- the type of the body, for status 200
abbrev pub type_line : HeadKind → List ℕ
type_line (File json len last) =
    if json then line (codes "Content-Type: application/json") else line (codes "Content-Type: application/octet-stream")
type_line (Query last) = line (codes "Content-Type: application/octet-stream")
type_line (Refusal status last) = []

-- that the connection ends after the response
abbrev pub connection_line : Bool → List ℕ
connection_line last = if last then line (codes "Connection: close") else []

-- the length of the body: the number of the file's bytes, chunk by chunk, or 0
abbrev pub length_line : HeadKind → List ℕ
length_line (File json len last) = line (codes "Content-Length: " ++ decimal len)
length_line (Query last) = line (codes "Transfer-Encoding: chunked")
length_line (Refusal status last) = line (codes "Content-Length: 0")

unfoldable pub head_text : HeadKind → List ℕ
head_text kind =
    status_line (status_of kind) ++ allow_line (status_of kind) ++ type_line kind ++ connection_line (ends kind) ++ length_line kind ++ line []
