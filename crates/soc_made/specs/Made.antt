-- The crashes that the program makes by itself, each as one whole message that submits it: this project's profile.
use Rattle.std.specs.Prelude.{ℕ, zero, suc, ◌+◌, ◌%◌, ◌^◌, List, [], ◌++◌, codes, decimal, length}
use Rattle.std.specs.Int.{to_be_bytes, w16, w32}
use Rattle.hex.specs.Hex.{encode_lower}
use Rattle.soc_made.specs.Dump.{dump}

-- the seed's lowest 32 bits in eight digits and the crash's number in five, both hexadecimal, in a crash id of the day 2016-09-18
abbrev pub made_id : ℕ → ℕ → List ℕ
made_id seed k = encode_lower (to_be_bytes w32 (seed % 2 ^ 32)) ++ (codes "-0000-4000-8000-0" ++ (encode_lower (to_be_bytes w16 k) ++ codes "0160918"))

-- the digit in the name of the module
abbrev pub made_digit : ℕ → ℕ → ℕ
made_digit seed k = (seed % 5 + k % 5) % 5

-- a part of the body: its parameters behind `form-data`, and its content
unfoldable pub part : List ℕ → List ℕ → List ℕ
part parameters content = codes "--made\r\nContent-Disposition: form-data; " ++ (parameters ++ (codes "\r\n\r\n" ++ (content ++ codes "\r\n")))

unfoldable pub made_body : ℕ → ℕ → List ℕ
made_body seed k =
    part (codes "name=\"uuid\"") (made_id seed k)
    ++ (part (codes "name=\"ProductName\"") (codes "Made")
    ++ (part (codes "name=\"Version\"") (codes "1")
    ++ (part (codes "name=\"upload_file_minidump\"; filename=\"d\"") (dump (made_digit seed k))
    ++ codes "--made--\r\n")))

-- a message that submits the body
abbrev pub message : List ℕ → List ℕ
message body =
    codes "POST /submit HTTP/1.1\r\nHost: h\r\nContent-Type: multipart/form-data; boundary=made\r\nContent-Length: "
    ++ (decimal (length body) ++ (codes "\r\n\r\n" ++ body))

unfoldable pub made_crash : ℕ → ℕ → List ℕ
made_crash seed k = message (made_body seed k)

-- the first crashes of a seed, one behind the other
abbrev pub made_crashes : ℕ → ℕ → List ℕ
made_crashes seed zero = []
made_crashes seed (suc count) = made_crashes seed count ++ made_crash seed count
