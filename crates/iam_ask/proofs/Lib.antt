mod Judged
mod Made
mod OneReport
mod Written
