-- The words of the lines, in ASCII.
-- Assumes nothing.
use Rattle.std.specs.Prelude.{ℕ, List, [], ◌∷◌}

-- "\n"
abbrev pub newline : List ℕ
newline = 10 ∷ []

-- " edge="
abbrev pub w_edge : List ℕ
w_edge = 32 ∷ 101 ∷ 100 ∷ 103 ∷ 101 ∷ 61 ∷ []

-- " complete="
abbrev pub w_complete : List ℕ
w_complete = 32 ∷ 99 ∷ 111 ∷ 109 ∷ 112 ∷ 108 ∷ 101 ∷ 116 ∷ 101 ∷ 61 ∷ []

-- " absorbed="
abbrev pub w_absorbed : List ℕ
w_absorbed = 32 ∷ 97 ∷ 98 ∷ 115 ∷ 111 ∷ 114 ∷ 98 ∷ 101 ∷ 100 ∷ 61 ∷ []

-- " refused "
abbrev pub w_refused : List ℕ
w_refused = 32 ∷ 114 ∷ 101 ∷ 102 ∷ 117 ∷ 115 ∷ 101 ∷ 100 ∷ 32 ∷ []

-- " code="
abbrev pub w_code : List ℕ
w_code = 32 ∷ 99 ∷ 111 ∷ 100 ∷ 101 ∷ 61 ∷ []

-- " close id="
abbrev pub w_close : List ℕ
w_close = 32 ∷ 99 ∷ 108 ∷ 111 ∷ 115 ∷ 101 ∷ 32 ∷ 105 ∷ 100 ∷ 61 ∷ []

-- " unknown kind "
abbrev pub w_unknown : List ℕ
w_unknown = 32 ∷ 117 ∷ 110 ∷ 107 ∷ 110 ∷ 111 ∷ 119 ∷ 110 ∷ 32 ∷ 107 ∷ 105 ∷ 110 ∷ 100 ∷ 32 ∷ []

-- " open id="
abbrev pub w_open : List ℕ
w_open = 32 ∷ 111 ∷ 112 ∷ 101 ∷ 110 ∷ 32 ∷ 105 ∷ 100 ∷ 61 ∷ []

-- " width="
abbrev pub w_width : List ℕ
w_width = 32 ∷ 119 ∷ 105 ∷ 100 ∷ 116 ∷ 104 ∷ 61 ∷ []

-- " length="
abbrev pub w_length : List ℕ
w_length = 32 ∷ 108 ∷ 101 ∷ 110 ∷ 103 ∷ 116 ∷ 104 ∷ 61 ∷ []

-- " record id="
abbrev pub w_record : List ℕ
w_record = 32 ∷ 114 ∷ 101 ∷ 99 ∷ 111 ∷ 114 ∷ 100 ∷ 32 ∷ 105 ∷ 100 ∷ 61 ∷ []

-- " offset="
abbrev pub w_offset : List ℕ
w_offset = 32 ∷ 111 ∷ 102 ∷ 102 ∷ 115 ∷ 101 ∷ 116 ∷ 61 ∷ []

-- " metadata id="
abbrev pub w_metadata : List ℕ
w_metadata = 32 ∷ 109 ∷ 101 ∷ 116 ∷ 97 ∷ 100 ∷ 97 ∷ 116 ∷ 97 ∷ 32 ∷ 105 ∷ 100 ∷ 61 ∷ []

-- " flags="
abbrev pub w_flags : List ℕ
w_flags = 32 ∷ 102 ∷ 108 ∷ 97 ∷ 103 ∷ 115 ∷ 61 ∷ []

-- " checksum="
abbrev pub w_checksum : List ℕ
w_checksum = 32 ∷ 99 ∷ 104 ∷ 101 ∷ 99 ∷ 107 ∷ 115 ∷ 117 ∷ 109 ∷ 61 ∷ []

-- " properties="
abbrev pub w_properties : List ℕ
w_properties = 32 ∷ 112 ∷ 114 ∷ 111 ∷ 112 ∷ 101 ∷ 114 ∷ 116 ∷ 105 ∷ 101 ∷ 115 ∷ 61 ∷ []

-- " size="
abbrev pub w_size : List ℕ
w_size = 32 ∷ 115 ∷ 105 ∷ 122 ∷ 101 ∷ 61 ∷ []

-- " mtime="
abbrev pub w_mtime : List ℕ
w_mtime = 32 ∷ 109 ∷ 116 ∷ 105 ∷ 109 ∷ 101 ∷ 61 ∷ []

-- " ctime="
abbrev pub w_ctime : List ℕ
w_ctime = 32 ∷ 99 ∷ 116 ∷ 105 ∷ 109 ∷ 101 ∷ 61 ∷ []

-- " path="
abbrev pub w_path : List ℕ
w_path = 32 ∷ 112 ∷ 97 ∷ 116 ∷ 104 ∷ 61 ∷ []

-- " data id="
abbrev pub w_data : List ℕ
w_data = 32 ∷ 100 ∷ 97 ∷ 116 ∷ 97 ∷ 32 ∷ 105 ∷ 100 ∷ 61 ∷ []

-- " timestamp="
abbrev pub w_timestamp : List ℕ
w_timestamp = 32 ∷ 116 ∷ 105 ∷ 109 ∷ 101 ∷ 115 ∷ 116 ∷ 97 ∷ 109 ∷ 112 ∷ 61 ∷ []

-- " success id="
abbrev pub w_success : List ℕ
w_success = 32 ∷ 115 ∷ 117 ∷ 99 ∷ 99 ∷ 101 ∷ 115 ∷ 115 ∷ 32 ∷ 105 ∷ 100 ∷ 61 ∷ []

-- " progress="
abbrev pub w_progress : List ℕ
w_progress = 32 ∷ 112 ∷ 114 ∷ 111 ∷ 103 ∷ 114 ∷ 101 ∷ 115 ∷ 115 ∷ 61 ∷ []

-- " in-response-to="
abbrev pub w_response : List ℕ
w_response = 32 ∷ 105 ∷ 110 ∷ 45 ∷ 114 ∷ 101 ∷ 115 ∷ 112 ∷ 111 ∷ 110 ∷ 115 ∷ 101 ∷ 45 ∷ 116 ∷ 111 ∷ 61 ∷ []

-- " holes="
abbrev pub w_holes : List ℕ
w_holes = 32 ∷ 104 ∷ 111 ∷ 108 ∷ 101 ∷ 115 ∷ 61 ∷ []

-- " failure id="
abbrev pub w_failure : List ℕ
w_failure = 32 ∷ 102 ∷ 97 ∷ 105 ∷ 108 ∷ 117 ∷ 114 ∷ 101 ∷ 32 ∷ 105 ∷ 100 ∷ 61 ∷ []

-- " status="
abbrev pub w_status : List ℕ
w_status = 32 ∷ 115 ∷ 116 ∷ 97 ∷ 116 ∷ 117 ∷ 115 ∷ 61 ∷ []

-- "-"
abbrev pub dash : List ℕ
dash = 45 ∷ []

-- "+"
abbrev pub plus : List ℕ
plus = 43 ∷ []

-- ","
abbrev pub comma : List ℕ
comma = 44 ∷ []

-- " fresh\n"
abbrev pub w_fresh : List ℕ
w_fresh = 32 ∷ 102 ∷ 114 ∷ 101 ∷ 115 ∷ 104 ∷ 10 ∷ []

-- " new\n"
abbrev pub w_new : List ℕ
w_new = 32 ∷ 110 ∷ 101 ∷ 119 ∷ 10 ∷ []

-- " already-open\n"
abbrev pub w_already : List ℕ
w_already = 32 ∷ 97 ∷ 108 ∷ 114 ∷ 101 ∷ 97 ∷ 100 ∷ 121 ∷ 45 ∷ 111 ∷ 112 ∷ 101 ∷ 110 ∷ 10 ∷ []

-- " status "
abbrev pub w_written : List ℕ
w_written = 32 ∷ 115 ∷ 116 ∷ 97 ∷ 116 ∷ 117 ∷ 115 ∷ 32 ∷ []

-- " send "
abbrev pub w_send : List ℕ
w_send = 32 ∷ 115 ∷ 101 ∷ 110 ∷ 100 ∷ 32 ∷ []

-- " bad length\n"
abbrev pub w_bad : List ℕ
w_bad = 32 ∷ 98 ∷ 97 ∷ 100 ∷ 32 ∷ 108 ∷ 101 ∷ 110 ∷ 103 ∷ 116 ∷ 104 ∷ 10 ∷ []

-- " cut short\n"
abbrev pub w_cut : List ℕ
w_cut = 32 ∷ 99 ∷ 117 ∷ 116 ∷ 32 ∷ 115 ∷ 104 ∷ 111 ∷ 114 ∷ 116 ∷ 10 ∷ []

-- " beacon flags="
abbrev pub w_beacon : List ℕ
w_beacon = 32 ∷ 98 ∷ 101 ∷ 97 ∷ 99 ∷ 111 ∷ 110 ∷ 32 ∷ 102 ∷ 108 ∷ 97 ∷ 103 ∷ 115 ∷ 61 ∷ []

-- " largest-width="
abbrev pub w_largest : List ℕ
w_largest = 32 ∷ 108 ∷ 97 ∷ 114 ∷ 103 ∷ 101 ∷ 115 ∷ 116 ∷ 45 ∷ 119 ∷ 105 ∷ 100 ∷ 116 ∷ 104 ∷ 61 ∷ []

-- " bundles="
abbrev pub w_bundles : List ℕ
w_bundles = 32 ∷ 98 ∷ 117 ∷ 110 ∷ 100 ∷ 108 ∷ 101 ∷ 115 ∷ 61 ∷ []

-- " streams="
abbrev pub w_streams : List ℕ
w_streams = 32 ∷ 115 ∷ 116 ∷ 114 ∷ 101 ∷ 97 ∷ 109 ∷ 115 ∷ 61 ∷ []

-- " send="
abbrev pub w_sending : List ℕ
w_sending = 32 ∷ 115 ∷ 101 ∷ 110 ∷ 100 ∷ 61 ∷ []

-- " receive="
abbrev pub w_receiving : List ℕ
w_receiving = 32 ∷ 114 ∷ 101 ∷ 99 ∷ 101 ∷ 105 ∷ 118 ∷ 101 ∷ 61 ∷ []

-- "cannot"
abbrev pub w_cannot : List ℕ
w_cannot = 99 ∷ 97 ∷ 110 ∷ 110 ∷ 111 ∷ 116 ∷ []

-- "not-now"
abbrev pub w_not_now : List ℕ
w_not_now = 110 ∷ 111 ∷ 116 ∷ 45 ∷ 110 ∷ 111 ∷ 119 ∷ []

-- "willing"
abbrev pub w_willing : List ℕ
w_willing = 119 ∷ 105 ∷ 108 ∷ 108 ∷ 105 ∷ 110 ∷ 103 ∷ []

-- " free-width="
abbrev pub w_free_width : List ℕ
w_free_width = 32 ∷ 102 ∷ 114 ∷ 101 ∷ 101 ∷ 45 ∷ 119 ∷ 105 ∷ 100 ∷ 116 ∷ 104 ∷ 61 ∷ []

-- " free="
abbrev pub w_free : List ℕ
w_free = 32 ∷ 102 ∷ 114 ∷ 101 ∷ 101 ∷ 61 ∷ []

-- " endpoint="
abbrev pub w_endpoint : List ℕ
w_endpoint = 32 ∷ 101 ∷ 110 ∷ 100 ∷ 112 ∷ 111 ∷ 105 ∷ 110 ∷ 116 ∷ 61 ∷ []

-- " plan count="
abbrev pub w_plan : List ℕ
w_plan = 32 ∷ 112 ∷ 108 ∷ 97 ∷ 110 ∷ 32 ∷ 99 ∷ 111 ∷ 117 ∷ 110 ∷ 116 ∷ 61 ∷ []

-- " pieces="
abbrev pub w_pieces : List ℕ
w_pieces = 32 ∷ 112 ∷ 105 ∷ 101 ∷ 99 ∷ 101 ∷ 115 ∷ 61 ∷ []

-- " check passes="
abbrev pub w_check : List ℕ
w_check = 32 ∷ 99 ∷ 104 ∷ 101 ∷ 99 ∷ 107 ∷ 32 ∷ 112 ∷ 97 ∷ 115 ∷ 115 ∷ 101 ∷ 115 ∷ 61 ∷ []

-- " table "
abbrev pub w_table : List ℕ
w_table = 32 ∷ 116 ∷ 97 ∷ 98 ∷ 108 ∷ 101 ∷ 32 ∷ []

-- " merge id="
abbrev pub w_merge : List ℕ
w_merge = 32 ∷ 109 ∷ 101 ∷ 114 ∷ 103 ∷ 101 ∷ 32 ∷ 105 ∷ 100 ∷ 61 ∷ []
