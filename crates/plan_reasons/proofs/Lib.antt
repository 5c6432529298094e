mod Numbered
mod Belonging
